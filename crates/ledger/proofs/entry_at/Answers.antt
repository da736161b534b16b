-- Inside the ring the three words are there.
use borrow.Author.Tests.{lt-leb, le-leb}
use Rattle.ledger.specs.Ledger.{entry_at}
use Rattle.ledger.proofs.entry_at.Goals as goal

pub returns-then-ring-slot : goal.returns-then-ring-slot
unfolding entry_at
returns-then-ring-slot c = simp (le-leb _ _ c.if-ring-slot.true)

pub returns : goal.returns
unfolding entry_at
returns c = simp (lt-leb _ _ c.if-ring-slot.false)
