-- By the tests.
use borrow.Author.Tests.{lt-leb, le-leb}
use Rattle.ledger.specs.Ledger.{undone_for}
use Rattle.ledger.proofs.Ledger.is_undone.Goals as goal

pub returns-then-entry-self : goal.returns-then-entry-self
unfolding undone_for
returns-then-entry-self c = simp (le-leb _ _ c.if-entry-self.true)

pub returns-then-entry-done : goal.returns-then-entry-done
unfolding undone_for
returns-then-entry-done c = rw (← c.done_of-done.ensures) (simp (lt-leb _ _ c.if-entry-self.false, le-leb _ _ c.if-entry-done.true))

pub returns : goal.returns
unfolding undone_for
returns c =
    rw (← c.done_of-done.ensures) (simp (lt-leb _ _ c.if-entry-self.false, lt-leb _ _ c.if-entry-done.false) c.touches.ensures)
