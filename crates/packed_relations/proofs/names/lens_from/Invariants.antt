-- The lengths passed, and those to go.
use mathlib.Core.Path.{◌≡◌}
use Prim.Native.Nat.{◌+◌, ◌*◌, ◌-◌, ◌≤◌}
use Rattle.packed_relations.specs.Packed.{lens_from}
use Rattle.packed_relations.proofs.names.lens_from.Given as goal

abbrev pub invariant-loop-k : goal.invariant-loop-k
invariant-loop-k l = (lens_from l.words l.first l.n ≡ l.sum + lens_from l.words (l.first + l.k) (l.n - l.k)) × (l.sum ≤ 63 * l.k)
