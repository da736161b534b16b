-- By the row's head, which names the relations that the data change.
use Rattle.touched.proofs.Laws.{with_none, truncate_changes, head_changes}
use mathlib.Core.Path.{refl, sym}
use Prim.Native.Nat.{ℕ, ◌<◌}
use native.Mathlib.Omega.{arith}
use lib.ListN.{get_or}
use Rattle.touched.proofs.after_row.Goals as goal

pub returns-in-Ok-Some-Truncate : goal.returns-in-Ok-Some-Truncate
returns-in-Ok-Some-Truncate c =
    let s = c.args.«data».now in
    let b : (i : ℕ) → get_or s i 0 < 256 = λ i. omega (arith, c.type_inv.«data» i) in
    rw (← truncate_changes s b _ _ _ (rw (c.in-Ok-Some-Truncate.field-0-is, c.in-Ok-Some-Truncate.field-0-0-is) at c.in-Ok-Some-Truncate.ensures)) c.with_relations.ensures

pub returns-in-Ok-Some-Relation : goal.returns-in-Ok-Some-Relation
returns-in-Ok-Some-Relation c = rw (← head_changes _ _ (rw (c.in-Ok-Some-Relation.field-0-is, c.in-Ok-Some-Relation.field-0-0-is) at c.in-Ok-Some-Relation.ensures) refl) (sym (with_none _ _))

pub returns-in-Ok-Some-Type : goal.returns-in-Ok-Some-Type
returns-in-Ok-Some-Type c = rw (← head_changes _ _ (rw (c.in-Ok-Some-Type.field-0-is, c.in-Ok-Some-Type.field-0-0-is) at c.in-Ok-Some-Type.ensures) refl) (sym (with_none _ _))

pub returns-in-Ok-Some-Origin : goal.returns-in-Ok-Some-Origin
returns-in-Ok-Some-Origin c = rw (← head_changes _ _ (rw (c.in-Ok-Some-Origin.field-0-is, c.in-Ok-Some-Origin.field-0-0-is) at c.in-Ok-Some-Origin.ensures) refl) (sym (with_none _ _))

pub returns-in-Ok-None : goal.returns-in-Ok-None
returns-in-Ok-None c = rw (← head_changes _ _ (rw c.in-Ok-None.field-0-is at c.in-Ok-None.ensures) refl) (sym (with_none _ _))

pub returns-in-Err : goal.returns-in-Err
returns-in-Err c = rw (← head_changes _ _ c.in-Err.ensures refl) (sym (with_none _ _))
