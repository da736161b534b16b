-- By the letter: the tuple, or a wrong letter.
use Rattle.wire.specs.Answer.{maybe}
use Rattle.wire.proofs.FieldLaws.{told as said, field_within}
use native.Mathlib.Omega.{arith}
use Rattle.rows.proofs.Heads.{new_cut, new_here, new_wrong}
use Rattle.rows.proofs.walk.new_at.Goals as goal

pub returns-in_default : goal.returns-in_default
returns-in_default c =
    let a = c.args in
    new_cut a.bytes.now a.at (said maybe c.read_u8.ensures c.in_default.is)

pub overflow_add-at : goal.overflow_add-at
overflow_add-at c = omega (arith, field_within 1 _ _ _ (said maybe c.read_u8.ensures c.in-Some.is))

pub returns-then-letter-eq78 : goal.returns-then-letter-eq78
returns-then-letter-eq78 c =
    let a = c.args in
    new_here a.bytes.now a.at _ (said maybe c.read_u8.ensures c.in-Some.is) c.if-letter-eq78.true c.counted_at.ensures

pub returns : goal.returns
returns c =
    let a = c.args in
    new_wrong a.bytes.now a.at _ (said maybe c.read_u8.ensures c.in-Some.is) c.if-letter-eq78.false
