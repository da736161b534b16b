-- The lengths, then the test, then the bytes and the places.
use mathlib.Core.Path.{sym, ◌∙◌}
use native.Mathlib.Omega.{arith}
use Rattle.packed_relations.proofs.Leaves.{lie_fits, made_not, made}
use Rattle.packed_relations.proofs.store.Cache.make_room.Goals as goal

pub returns-then-not-lie_in-clause-value : goal.returns-then-not-lie_in-clause-value
returns-then-not-lie_in-clause-value c =
    let a = c.args in
    let m = a.self.now in
    let l = rw (c.read.ensures.2, c.read.ensures.3) at c.lens-lens.ensures in
    made_not m.held.now a.slot a.new m.ids.now m.counts.now m.words.now m.names.now _ _ _ _ _ _ c.min-slots.ensures c.min-next.ensures
    l.0 l.1 l.2 c.min-room.ensures (sym c.if-not-lie_in.true ∙ c.lie_in.ensures)

pub move_names-requires : goal.move_names-requires
move_names-requires c =
    let f = lie_fits _ _ _ _ _ (sym c.if-not-lie_in.false ∙ c.lie_in.ensures) in
    (omega (arith, f.0, c.min-room.ensures), omega (arith, f.1, c.min-room.ensures))

pub returns-clause-value : goal.returns-clause-value
returns-clause-value c =
    let a = c.args in
    let m = a.self.now in
    let l = rw (c.read.ensures.2, c.read.ensures.3) at c.lens-lens.ensures in
    made m.held.now a.slot a.new m.ids.now m.counts.now m.words.now m.names.now _ _ _ _ _ _ c.min-slots.ensures c.min-next.ensures
    l.0 l.1 l.2 c.min-room.ensures (sym c.if-not-lie_in.false ∙ c.lie_in.ensures) (c.place_slots.ensures.rest.1 ∙ c.move_names.ensures) c.place_slots.ensures.value
