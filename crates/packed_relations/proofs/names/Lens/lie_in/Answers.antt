-- Both sums.
use Prim.Native.Nat.{◌+◌, ◌≤◌}
use native.Mathlib.Omega.{arith}
use borrow.Author.Tests.{le-leb, lt-leb}
use Rattle.packed_relations.specs.Packed.{lie_in}
use Rattle.packed_relations.proofs.names.Lens.lie_in.Goals as goal

pub returns-then-room-self : goal.returns-then-room-self
unfolding lie_in
returns-then-room-self c = rw (lt-leb _ _ c.if-room-self.true)

pub returns : goal.returns
unfolding lie_in
returns c =
    let a = c.args in
    let h : a.self.before + a.self.own + a.self.later ≤ a.room = omega arith in
    rw (le-leb _ _ h)
