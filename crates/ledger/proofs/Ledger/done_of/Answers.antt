-- By the file's number.
use borrow.Author.Tests.{ne_eqb}
use Rattle.ledger.specs.Ledger.{file_done}
use Rattle.ledger.proofs.Ledger.done_of.Goals as goal

pub returns-then-file-eq0 : goal.returns-then-file-eq0
unfolding file_done
returns-then-file-eq0 c = rw c.if-file-eq0.true

pub returns-then-file-eq1 : goal.returns-then-file-eq1
unfolding file_done
returns-then-file-eq1 c = rw c.if-file-eq1.true

pub returns-then-file-eq2 : goal.returns-then-file-eq2
unfolding file_done
returns-then-file-eq2 c = rw c.if-file-eq2.true

pub returns : goal.returns
unfolding file_done
returns c = simp (ne_eqb _ _ c.if-file-eq0.false, ne_eqb _ _ c.if-file-eq1.false, ne_eqb _ _ c.if-file-eq2.false)
