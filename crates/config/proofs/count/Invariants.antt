-- The names counted and those to come are as long as the value.
use Rattle.config.specs.OptionValue.{option_value}
use Rattle.config.specs.Code.{listed}
use Prim.Native.Nat.{◌≤◌, ◌+◌}
use mathlib.Core.Path.{◌≡◌}
use lib.ListN.{length}
use Rattle.config.proofs.count.Given as goal

abbrev pub invariant-loop-i : goal.invariant-loop-i
invariant-loop-i l = (l.need ≤ l.room) × (l.need + length (listed l.i l.names) ≡ length (option_value l.names))
