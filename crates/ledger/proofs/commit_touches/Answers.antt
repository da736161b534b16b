-- By the list's length.
use borrow.Author.Tests.{ne_eqb}
use Rattle.ledger.specs.Ledger.{commit_touches}
use Rattle.ledger.proofs.commit_touches.Goals as goal

pub returns-then-listed-eq0 : goal.returns-then-listed-eq0
unfolding commit_touches
returns-then-listed-eq0 c = rw c.if-listed-eq0.true

pub returns-else-listed-eq0 : goal.returns-else-listed-eq0
unfolding commit_touches
returns-else-listed-eq0 c = simp (ne_eqb _ _ c.if-listed-eq0.false)
