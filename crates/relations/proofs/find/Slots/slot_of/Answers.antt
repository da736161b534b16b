-- The library's search among those held.
use mathlib.Core.Path.{ap, ◌∙◌}
use native.Mathlib.Omega.{arith}
use lib.ListN.{take, length-take}
use Rattle.relations.specs.Memory.{place_of}
use Rattle.relations.proofs.Leaves.{first_place, taken_least}
use Rattle.relations.proofs.find.Slots.slot_of.Goals as goal

pub returns : goal.returns
returns c =
    let a = c.args in
    let n = c.min-n.result in
    let e = length-take n a.self.ids.now in
    c.unwrap_or.ensures ∙ rw c.place_among.ensures (first_place a.id n (take n a.self.ids.now) (omega (arith, e, c.min-n.ensures)))
    ∙ ap (place_of a.id) {x = take n a.self.ids.now} (rw c.min-n.ensures (taken_least a.self.held a.self.ids.now))
