-- By the tests.
use borrow.Author.Tests.{lt-ltb, le-ltb, lt-leb, le-leb}
use Rattle.ledger.specs.Ledger.{slot_of}
use Rattle.ledger.proofs.slot_after.Goals as goal

pub returns-then-capacity-front : goal.returns-then-capacity-front
unfolding slot_of
returns-then-capacity-front c = simp (le-leb _ _ c.if-capacity-front.true)

pub returns-then-count-left : goal.returns-then-count-left
unfolding slot_of
returns-then-count-left c = simp (lt-leb _ _ c.if-capacity-front.false, lt-ltb _ _ c.if-count-left.true)

pub returns : goal.returns
unfolding slot_of
returns c = simp (lt-leb _ _ c.if-capacity-front.false, le-ltb _ _ c.if-count-left.false)
