-- The column by its length field: cut, negative, longer than what is left, or within it.
use native.Mathlib.Omega.{arith}
use Rattle.wire.specs.Answer.{maybe}
use Rattle.wire.proofs.FieldLaws.{told, field_within}
use Rattle.query.specs.DataRow.{column_at}
use borrow.Author.Tests.{le-leb, lt-leb, lt-ltb, le-ltb}
use Rattle.query.proofs.data_row.column_at.Goals as goal

pub returns-in_err-len : goal.returns-in_err-len
unfolding column_at
returns-in_err-len c = rw c.from_residual.ensures (simp (told maybe c.read_u32.ensures c.in_err-len.was))

pub overflow_add-from : goal.overflow_add-from
overflow_add-from c = omega (arith, field_within 4 _ _ _ (told maybe c.read_u32.ensures c.in_ok-len.was))

pub returns-then-len-ge-FIRST_NEGATIVE_32 : goal.returns-then-len-ge-FIRST_NEGATIVE_32
unfolding column_at
returns-then-len-ge-FIRST_NEGATIVE_32 c = simp (told maybe c.read_u32.ensures c.in_ok-len.was, le-leb _ _ c.if-len-ge-FIRST_NEGATIVE_32.true)

pub overflow_sub-payload : goal.overflow_sub-payload
overflow_sub-payload c = omega (arith, field_within 4 _ _ _ (told maybe c.read_u32.ensures c.in_ok-len.was))

pub returns-then-payload-from : goal.returns-then-payload-from
unfolding column_at
returns-then-payload-from c = simp (told maybe c.read_u32.ensures c.in_ok-len.was, lt-leb _ _ c.if-len-ge-FIRST_NEGATIVE_32.false, lt-ltb _ _ c.if-payload-from.true)

pub overflow_add-result : goal.overflow_add-result
overflow_add-result c = omega (arith, field_within 4 _ _ _ (told maybe c.read_u32.ensures c.in_ok-len.was))

pub returns : goal.returns
unfolding column_at
returns c = simp (told maybe c.read_u32.ensures c.in_ok-len.was, lt-leb _ _ c.if-len-ge-FIRST_NEGATIVE_32.false, le-ltb _ _ c.if-payload-from.false)
