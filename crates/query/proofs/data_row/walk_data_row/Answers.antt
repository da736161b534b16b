-- The number of columns is cut, negative, or tells how far the walk goes.
use Rattle.wire.specs.Answer.{maybe}
use Rattle.wire.proofs.FieldLaws.{told}
use Rattle.query.specs.DataRow.{columns_of, nth}
use borrow.Author.Tests.{le-leb, lt-leb}
use Rattle.query.proofs.data_row.walk_data_row.Goals as goal

pub returns-in_err-n : goal.returns-in_err-n
unfolding columns_of
returns-in_err-n c = rw c.from_residual.ensures (simp (told maybe c.read_u16.ensures c.in_err-n.was))

pub returns-then-n-ge-FIRST_NEGATIVE_16 : goal.returns-then-n-ge-FIRST_NEGATIVE_16
unfolding columns_of nth
returns-then-n-ge-FIRST_NEGATIVE_16 c = simp (told maybe c.read_u16.ensures c.in_ok-n.was, le-leb _ _ c.if-n-ge-FIRST_NEGATIVE_16.true)

pub returns : goal.returns
unfolding columns_of
returns c = simp (told maybe c.read_u16.ensures c.in_ok-n.was, lt-leb _ _ c.if-n-ge-FIRST_NEGATIVE_16.false) c.walk.ensures
