-- By the test.
use borrow.Author.Tests.{lt-ltb, le-ltb}
use Rattle.ledger.specs.Ledger.{fitted_of}
use Rattle.ledger.proofs.Ledger.fitted.Goals as goal

pub returns-then-self-capacity : goal.returns-then-self-capacity
unfolding fitted_of
returns-then-self-capacity c = rw (c.with_ring.ensures, c.min-count.ensures) (simp (lt-ltb _ _ c.if-self-capacity.true))

pub returns : goal.returns
unfolding fitted_of
returns c = rw (c.with_ring-2.ensures, c.min-count.ensures) (simp (le-ltb _ _ c.if-self-capacity.false))
