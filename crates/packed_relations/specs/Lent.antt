-- The struct that holds what is lent, as the records of Packed. Document 02, wish 12.
use Rattle.std.specs.Prelude.{◌≡◌}
use Rattle.packed_relations.specs.Packed.{Words, Packed, words_of, packed}
use Rattle.packed_relations.specs.declared.store.Cache.{Cache}

-- the columns, and the whole memory
abbrev pub words_in : Cache → Words
words_in c = words_of c.words.now c.names.now

abbrev pub packed_in : Cache → Packed
packed_in c = packed c.held.now c.ids.now c.counts.now (words_in c)

-- all but the columns is as before
abbrev pub KeepsSlots : Cache → Cache → Type 0
KeepsSlots c d = (d.held.now ≡ c.held.now) × (d.ids.now ≡ c.ids.now) × (d.counts.now ≡ c.counts.now)

-- the same memory is lent, whatever stands in it
abbrev pub LendsSame : Cache → Cache → Type 0
LendsSame c d =
    (d.held.ghost_name ≡ c.held.ghost_name) × (d.ids.ghost_name ≡ c.ids.ghost_name) × (d.counts.ghost_name ≡ c.counts.ghost_name)
    × (d.words.ghost_name ≡ c.words.ghost_name) × (d.names.ghost_name ≡ c.names.ghost_name)
