-- What is left to store, from the column reached, gives what storing all gives.
use mathlib.Core.Path.{◌≡◌}
use mathlib.Core.Bool.{true}
use Prim.Native.Nat.{◌+◌, ◌*◌, ◌≤◌, ◌-◌}
use Rattle.relations.specs.Cache.{names_fit}
use Rattle.relations.specs.Memory.{described_from}
use Rattle.packed_relations.specs.Lent.{words_in, KeepsSlots, LendsSame}
use Rattle.packed_relations.specs.Packed.{store_words}
use Rattle.packed_relations.proofs.store.Cache.store_words.Given as goal

abbrev pub invariant-loop-k : goal.invariant-loop-k
invariant-loop-k l =
    (names_fit (described_from l.bytes (l.n - l.k) l.at) ≡ true)
    × (store_words l.first l.place (described_from l.bytes l.n l.from) (words_in l.initial.self)
    ≡ store_words (l.first + l.k) l.to (described_from l.bytes (l.n - l.k) l.at) (words_in l.self))
    × (l.to ≤ l.place + 63 * l.k) × KeepsSlots l.initial.self l.self × LendsSame l.initial.self l.self
