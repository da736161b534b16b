-- Window after window fits; the last block stands over the one before it.
use Rattle.lossy.specs.Wide.{windows_at}
use Prim.Native.Nat.{◌+◌, ◌-◌, ◌≤◌}
use mathlib.Core.Path.{◌≡◌}
use lib.ListN.{length}
use Rattle.lossy.proofs.wide.passed.Given as goal

abbrev pub invariant-loop-i : goal.invariant-loop-i
invariant-loop-i l = (l.from ≤ l.i) × (l.i + 3 ≤ length l.text) × (windows_at l.text l.from (l.i - l.from) ≡ 0)

abbrev pub decreases-loop-i : goal.decreases-loop-i
decreases-loop-i l = length l.text - l.i
