-- By the tests; a slot outside the ring is before the first.
use Prim.Native.Nat.{◌+◌}
use borrow.Author.Tests.{lt-ltb, le-ltb}
use native.Mathlib.Omega.{arith}
use Rattle.ledger.specs.Ledger.{next_of}
use Rattle.ledger.proofs.next.Goals as goal

pub returns-then-capacity-slot : goal.returns-then-capacity-slot
unfolding next_of
returns-then-capacity-slot c = simp (le-ltb (c.args.slot + 1) c.args.capacity (omega arith))

pub returns-then-after-capacity : goal.returns-then-after-capacity
unfolding next_of
returns-then-after-capacity c = simp (lt-ltb _ _ c.if-after-capacity.true)

pub returns : goal.returns
unfolding next_of
returns c = simp (le-ltb _ _ c.if-after-capacity.false)
