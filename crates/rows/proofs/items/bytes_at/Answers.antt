-- A length that is not negative, and so many bytes.
use mathlib.Core.Path.{sym}
use Rattle.wire.specs.Answer.{maybe}
use Rattle.wire.proofs.FieldLaws.{told as said, field_within}
use Rattle.rows.proofs.Steps.{value_cut, value_over, value_fits}
use native.Mathlib.Omega.{arith}
use Rattle.rows.proofs.items.bytes_at.Goals as goal

pub returns-in_default : goal.returns-in_default
returns-in_default c =
    let a = c.args in
    sym (value_cut a.bytes.now a.at (said maybe c.read_u32.ensures c.in_default.is))

pub overflow_add-from : goal.overflow_add-from
overflow_add-from c = omega (arith, field_within 4 _ _ _ (said maybe c.read_u32.ensures c.in-Some.is))

pub overflow_sub-bytes : goal.overflow_sub-bytes
overflow_sub-bytes c = omega (arith, field_within 4 _ _ _ (said maybe c.read_u32.ensures c.in-Some.is))

pub returns-then-min-n : goal.returns-then-min-n
returns-then-min-n c =
    let a = c.args in
    sym (value_over a.bytes.now a.at c.in-Some.len _ (said maybe c.read_u32.ensures c.in-Some.is) c.min.ensures c.if-min-n.true)

pub overflow_add-result : goal.overflow_add-result
overflow_add-result c = omega (arith, field_within 4 _ _ _ (said maybe c.read_u32.ensures c.in-Some.is), c.min.ensures, c.if-min-n.false)

pub returns : goal.returns
returns c =
    let a = c.args in
    sym (value_fits a.bytes.now a.at c.in-Some.len _ (said maybe c.read_u32.ensures c.in-Some.is) c.min.ensures c.if-min-n.false)
