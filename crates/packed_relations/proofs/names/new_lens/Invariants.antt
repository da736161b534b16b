-- The lengths passed, and those to go.
use mathlib.Core.Path.{◌≡◌}
use mathlib.Core.Bool.{true}
use Prim.Native.Nat.{◌+◌, ◌*◌, ◌≤◌, ◌-◌}
use Rattle.relations.specs.Cache.{names_fit}
use Rattle.relations.specs.Memory.{described_from}
use Rattle.packed_relations.specs.Packed.{new_lens}
use Rattle.packed_relations.proofs.names.new_lens.Given as goal

abbrev pub invariant-loop : goal.invariant-loop
invariant-loop l =
    (names_fit (described_from l.bytes (l.n - l.counter) l.at) ≡ true) × (new_lens (described_from l.bytes l.n l.from) ≡ l.sum + new_lens (described_from l.bytes (l.n - l.counter) l.at))
    × (l.sum ≤ 63 * l.counter)
