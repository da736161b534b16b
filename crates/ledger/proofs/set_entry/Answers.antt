-- Inside the ring the three words are there.
use borrow.Author.Tests.{lt-leb, le-leb}
use Rattle.ledger.specs.Ledger.{entry_in}
use Rattle.ledger.proofs.set_entry.Goals as goal

pub returns-then-ring-slot : goal.returns-then-ring-slot
unfolding entry_in
returns-then-ring-slot c = simp (le-leb _ _ c.if-ring-slot.true)

pub returns : goal.returns
unfolding entry_in
returns c = simp (lt-leb _ _ c.if-ring-slot.false)
