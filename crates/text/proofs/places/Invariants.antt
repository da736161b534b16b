-- The digits counted and those that are left are those of v, and one.
use Rattle.text.specs.Numeral.{numeral}
use Prim.Native.Nat.{◌<◌, ◌+◌, ◌^◌}
use mathlib.Core.Path.{◌≡◌}
use lib.ListN.{length}
use Rattle.text.proofs.places.Given as goal

abbrev pub invariant-loop-x : goal.invariant-loop-x
invariant-loop-x l = (l.x < l.base ^ 20) × (l.n + length (numeral l.base 20 l.x) ≡ 1 + length (numeral l.base 20 l.v))

abbrev pub decreases-loop-x : goal.decreases-loop-x
decreases-loop-x l = l.x
