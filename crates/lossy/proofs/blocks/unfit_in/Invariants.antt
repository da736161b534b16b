-- Of the bytes before the loop's place so many are unfit, at most each of them.
use Rattle.lossy.specs.Blocks.{unfit_at}
use Prim.Native.Nat.{◌≤◌}
use mathlib.Core.Path.{◌≡◌}
use Rattle.lossy.proofs.blocks.unfit_in.Given as goal

abbrev pub invariant-loop-j : goal.invariant-loop-j
invariant-loop-j l = (l.n ≡ unfit_at l.text l.from l.j) × (l.n ≤ l.j)
