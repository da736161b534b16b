-- Four bytes stand after the tag.
use Rattle.wire.specs.Answer.{maybe}
use Rattle.wire.proofs.FieldLaws.{told, field_whole}
use Rattle.wire.proofs.Laws.{impossible}
use native.Mathlib.Omega.{arith}
use Rattle.framing.proofs.length_of.Goals as goal

pub returns-in-Some : goal.returns-in-Some
returns-in-Some c =
    let h = c.args.header.now in
    cc (told maybe c.read_u32.ensures c.in-Some.is, field_whole 4 h 1 (omega arith))

pub returns-in-None : goal.returns-in-None
returns-in-None c =
    let h = c.args.header.now in
    impossible (cc (told maybe c.read_u32.ensures c.in-None.is, field_whole 4 h 1 (omega arith)))
