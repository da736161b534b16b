-- The state says what is due at the loop's place.
use Rattle.lossy.proofs.States.{Going}
use Prim.Native.Nat.{◌+◌, ◌-◌, ◌≤◌}
use lib.ListN.{length}
use Rattle.lossy.proofs.lookup.part_in.Given as goal

abbrev pub invariant-loop-state : goal.invariant-loop-state
invariant-loop-state l = (l.at + 1 ≤ l.i) × (l.i ≤ length l.s) × Going l.s l.at l.i l.state

abbrev pub decreases-loop-state : goal.decreases-loop-state
decreases-loop-state l = length l.s - l.i
