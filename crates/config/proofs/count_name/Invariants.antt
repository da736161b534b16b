-- The bytes counted and those to come are as long as the name with its quotes doubled.
use Rattle.config.specs.OptionValue.{doubled}
use Prim.Native.Nat.{◌≤◌, ◌+◌}
use mathlib.Core.Path.{◌≡◌}
use lib.ListN.{length, drop}
use Rattle.config.proofs.count_name.Given as goal

abbrev pub invariant-loop-c : goal.invariant-loop-c
invariant-loop-c l = (l.need ≤ l.room) × (l.need + length (doubled (drop l.c-index l.s)) ≡ length (doubled l.s))
