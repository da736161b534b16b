-- What is left to place, from the slot reached, gives what placing all gives.
use mathlib.Core.Path.{◌≡◌}
use Prim.Native.Nat.{◌+◌, ◌*◌, ◌-◌, ◌≤◌}
use Rattle.packed_relations.specs.Lent.{KeepsSlots, LendsSame}
use Rattle.packed_relations.specs.Packed.{place_slots}
use Rattle.packed_relations.proofs.store.Cache.place_slots.Given as goal

abbrev pub invariant-loop-k : goal.invariant-loop-k
invariant-loop-k l =
    (place_slots l.initial.self.counts.now l.first l.n l.place l.initial.self.words.now ≡ place_slots l.initial.self.counts.now (l.first + l.k) (l.n - l.k) l.at l.self.words.now)
    × (l.at ≤ l.place + 2016 * l.k) × KeepsSlots l.initial.self l.self × (l.self.names.now ≡ l.initial.self.names.now) × LendsSame l.initial.self l.self
