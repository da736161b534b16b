-- The names counted and those to come have all bytes together.
use Rattle.error.specs.Inputs.{total}
use Prim.Native.Nat.{◌≤◌, ◌+◌}
use mathlib.Core.Path.{◌≡◌}
use lib.ListN.{drop}
use Rattle.error.proofs.inputs_len.Given as goal

abbrev pub invariant-loop-s : goal.invariant-loop-s
invariant-loop-s l = (l.sum ≤ l.room) × (l.sum + total (drop l.s-index l.names) ≡ total l.names)
