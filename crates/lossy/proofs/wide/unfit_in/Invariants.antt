-- Of the windows before the loop's place the sum is what was added up, at most six for each.
use Rattle.lossy.specs.Wide.{windows_at}
use Prim.Native.Nat.{◌*◌, ◌≤◌}
use mathlib.Core.Path.{◌≡◌}
use Rattle.lossy.proofs.wide.unfit_in.Given as goal

abbrev pub invariant-loop-j : goal.invariant-loop-j
invariant-loop-j l = (l.n ≡ windows_at l.text l.from l.j) × (l.n ≤ 6 * l.j)
