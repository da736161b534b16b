-- Refused for want of a slot, for its columns or for want of room, or stored in its slot.
use native.Mathlib.Omega.{arith}
use mathlib.Core.Path.{sym, ap, ◌∙◌}
use Prim.Native.Nat.{ℕ}
use lib.ListN.{take, length-take}
use Rattle.relations.specs.Memory.{described_from}
use Rattle.relations.proofs.Leaves.{fits_few}
use Rattle.relations.proofs.Held.{place_most}
use Rattle.packed_relations.specs.Lent.{packed_in}
use Rattle.packed_relations.specs.Packed.{made_room}
use Rattle.packed_relations.proofs.Leaves.{kept_full, kept_large, kept_crowded, kept_stored}
use Rattle.packed_relations.proofs.store.Cache.keep.Goals as goal

pub returns-then-slot-ge-RELATIONS-clause-value : goal.returns-then-slot-ge-RELATIONS-clause-value
returns-then-slot-ge-RELATIONS-clause-value c =
    let a = c.args in
    let e = rw (c.read.ensures.0, c.read.ensures.1) at c.slot_of-slot.ensures in
    kept_full (packed_in a.self.now) a.id
    (described_from a.bytes.now a.n a.from) c.slot_of-slot.result e c.if-slot-ge-RELATIONS.true

pub returns-then-not-fit-clause-value : goal.returns-then-not-fit-clause-value
returns-then-not-fit-clause-value c =
    let a = c.args in
    let e = rw (c.read.ensures.0, c.read.ensures.1) at c.slot_of-slot.ensures in
    kept_large (packed_in a.self.now) a.id
    (described_from a.bytes.now a.n a.from) c.slot_of-slot.result e (omega arith)
    (sym c.if-not-fit.true ∙ c.fit.ensures)

pub new_lens-new-requires : goal.new_lens-new-requires
new_lens-new-requires c =
    let w = fits_few _ (sym c.if-not-fit.false ∙ c.fit.ensures) in
    (omega (arith, w.0, c.requires), w.1)

pub make_room-requires : goal.make_room-requires
make_room-requires c =
    let a = c.args in
    let e = rw (c.read.ensures.0, c.read.ensures.1) at c.slot_of-slot.ensures in
    let w = fits_few _ (sym c.if-not-fit.false ∙ c.fit.ensures) in
    let most = place_most a.id (take a.self.now.held.now a.self.now.ids.now) in (
      omega arith,
      omega (arith, e, most, length-take a.self.now.held.now a.self.now.ids.now),
      omega (arith, c.new_lens-new.ensures.1, w.0, c.requires),
    )

pub returns-in_default-clause-value : goal.returns-in_default-clause-value
returns-in_default-clause-value c =
    let a = c.args in
    let e = rw (c.read.ensures.0, c.read.ensures.1) at c.slot_of-slot.ensures in
    let m =
    (rw c.in_default.is at c.make_room.ensures.value)
    ∙ ap (λ (y : ℕ). made_room (packed_in a.self.now) c.slot_of-slot.result y) c.new_lens-new.ensures.0 in
    let k = c.make_room.ensures.rest in
    rw (k.0, k.1, k.2)
    (kept_crowded (packed_in a.self.now) a.id
    (described_from a.bytes.now a.n a.from) c.slot_of-slot.result e (omega (arith, c.if-slot-ge-RELATIONS.false))
    (sym c.if-not-fit.false ∙ c.fit.ensures) m)

pub store_words-requires : goal.store_words-requires
store_words-requires c =
    let w = fits_few _ (sym c.if-not-fit.false ∙ c.fit.ensures) in
    (omega (arith, w.0, c.requires, c.if-slot-ge-RELATIONS.false), omega (arith, w.0, c.requires, rw c.in-Some.is at c.make_room.ensures.most), w.1)

pub overflow_cast-n : goal.overflow_cast-n
overflow_cast-n c =
    let w = fits_few _ (sym c.if-not-fit.false ∙ c.fit.ensures) in
    omega (arith, w.0, c.requires)

pub returns-clause-value : goal.returns-clause-value
returns-clause-value c =
    let a = c.args in
    let e = rw (c.read.ensures.0, c.read.ensures.1) at c.slot_of-slot.ensures in
    let m =
    (rw c.in-Some.is at c.make_room.ensures.value)
    ∙ ap (λ (y : ℕ). made_room (packed_in a.self.now) c.slot_of-slot.result y) c.new_lens-new.ensures.0 in
    let k = c.make_room.ensures.rest in
    let h = c.store_words.ensures.rest in
    kept_stored (packed_in a.self.now) a.id
    (described_from a.bytes.now a.n a.from) c.slot_of-slot.result e (omega (arith, c.if-slot-ge-RELATIONS.false))
    (sym c.if-not-fit.false ∙ c.fit.ensures) m
    a.n c.requires (rw (h.0, k.0) at c.max-self.ensures) (rw (h.1, k.1) at c.set.ensures) (rw (h.2, k.2) at c.set-2.ensures) c.store_words.ensures.value
