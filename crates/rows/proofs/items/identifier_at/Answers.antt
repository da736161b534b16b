-- A field of 32 bits, or none.
use Rattle.wire.specs.Answer.{maybe}
use Rattle.wire.proofs.FieldLaws.{told as said, field_within}
use Rattle.rows.proofs.Steps.{number_got, number_cut}
use mathlib.Core.Path.{sym}
use native.Mathlib.Omega.{arith}
use Rattle.rows.proofs.items.identifier_at.Goals as goal

pub returns-in_default : goal.returns-in_default
returns-in_default c =
    let a = c.args in
    sym (number_cut a.bytes.now a.at 4 (said maybe c.read_u32.ensures c.in_default.is))

pub overflow_add-result : goal.overflow_add-result
overflow_add-result c = omega (arith, field_within 4 _ _ _ (said maybe c.read_u32.ensures c.in-Some.is))

pub returns : goal.returns
returns c =
    let a = c.args in
    sym (number_got a.bytes.now a.at 4 c.in-Some.id
    (said maybe c.read_u32.ensures c.in-Some.is))
