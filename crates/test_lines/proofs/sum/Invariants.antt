use Rattle.test_lines.specs.Line.{sum_from, sum_of}
use lib.ListN.{drop}
use mathlib.Core.Path.{◌≡◌}
use Prim.Native.Nat.{◌<◌}
use Rattle.test_lines.proofs.sum.Given as goal

abbrev pub invariant-loop-b : goal.invariant-loop-b
invariant-loop-b l = (l.h < 4294967296) × (sum_from l.h (drop l.b-index l.s) ≡ sum_of l.s)
