-- The relations read and those to come touch what all of them do.
use Rattle.touched.specs.Touched.{entries_of, with_all}
use Rattle.touched.specs.Code.{identifiers_at}
use Prim.Native.Nat.{◌-◌}
use mathlib.Core.Path.{◌≡◌}
use Rattle.touched.proofs.with_relations.Given as goal

abbrev pub invariant-loop : goal.invariant-loop
invariant-loop l =
    with_all (entries_of l.identifiers l.files) (identifiers_at l.«data» l.n l.from) l.initial.touched
    ≡ with_all (entries_of l.identifiers l.files) (identifiers_at l.«data» (l.n - l.counter) l.place) l.touched
