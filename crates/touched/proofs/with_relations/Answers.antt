-- The relations read and those to come touch what all of them do.
use Rattle.touched.specs.Touched.{entries_of}
use Rattle.touched.specs.Code.{identifiers_at}
use Rattle.touched.proofs.Laws.{with_none, with_append, identifiers_next, identifiers_cut, identifiers_end}
use Prim.Native.Nat.{◌-◌, ◌+◌}
use mathlib.Core.Path.{◌≡◌, sym, ◌∙◌}
use mathlib.Core.List.{[], ◌∷◌}
use native.Mathlib.Omega.{arith}
use Rattle.touched.proofs.with_relations.Goals as goal

pub returns-in_default : goal.returns-in_default
returns-in_default c =
    let a = c.args in
    let t : identifiers_at a.«data».now (a.n - c.loop.counter) c.loop.place ≡ [] = identifiers_cut _ _ _ _ _ (omega arith) c.in_default.ensures in
    sym (c.loop.invariant ∙ rw t (with_none _ _))

pub loop-preserved : goal.loop-preserved
loop-preserved c =
    let a = c.args in
    let id = c.in-Ok.id in
    let next = c.in-Ok.next in
    let rest = identifiers_at a.«data».now (a.n - (c.loop.counter + 1)) next in
    let t : identifiers_at a.«data».now (a.n - c.loop.counter) c.loop.place ≡ id ∷ rest = identifiers_next _ _ _ _ _ _ (omega arith) c.in-Ok.ensures in
    (c.loop.invariant ∙ rw (t, c.with_relation-touched.ensures) (with_append (entries_of a.identifiers.now a.files.now) (id ∷ []) rest c.loop.touched))

pub returns : goal.returns
returns c =
    let a = c.args in
    let t : identifiers_at a.«data».now (a.n - c.loop.counter) c.loop.place ≡ [] = identifiers_end _ _ _ _ (omega arith) in
    sym (c.loop.invariant ∙ rw t (with_none _ _))
