-- The length is judged first, and then held to the limit.
use Rattle.wire.specs.Answer.{maybe}
use Rattle.wire.proofs.FieldLaws.{told}
use Rattle.framing.proofs.Laws.{length_over, length_good}
use Rattle.framing.proofs.Length.{judged_bad}
use Rattle.framing.proofs.Length as L
use Rattle.framing.proofs.judge.Goals as goal

pub returns-in_default : goal.returns-in_default
returns-in_default c = judged_bad _ _ _ _ _ c.length_of.ensures _ c.new.ensures (told maybe c.payload_len.ensures c.in_default.is)

pub returns-then-limit-len : goal.returns-then-limit-len
returns-then-limit-len c =
    let g = L.length_good _ _ (told maybe c.payload_len.ensures c.in-Some.is) in
    length_over _ _ _ _ _ c.length_of.ensures g.small g.least _ c.stopped.ensures (rw g.is at c.if-limit-len.true)

pub returns : goal.returns
returns c =
    let g = L.length_good _ _ (told maybe c.payload_len.ensures c.in-Some.is) in
    length_good _ _ _ _ _ c.length_of.ensures g.small g.least _ _ (rw g.is at c.at_byte.ensures) (rw g.is at c.if-limit-len.false)
    c.fill_payload.ensures
