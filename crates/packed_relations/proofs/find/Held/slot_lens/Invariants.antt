-- The lengths passed, and those to go.
use mathlib.Core.Path.{◌≡◌}
use Prim.Native.Nat.{◌+◌, ◌*◌, ◌-◌, ◌≤◌}
use Rattle.packed_relations.specs.Packed.{slot_lens}
use Rattle.packed_relations.proofs.find.Held.slot_lens.Given as goal

abbrev pub invariant-loop-k : goal.invariant-loop-k
invariant-loop-k l =
    (slot_lens l.self.slots.counts.now l.self.words.now l.first l.n ≡ l.sum + slot_lens l.self.slots.counts.now l.self.words.now (l.first + l.k) (l.n - l.k)) × (l.sum ≤ 2016 * l.k)
