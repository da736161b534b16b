-- The memory stands for the relations that are held: what is looked up in the one is looked up in the other, and a Relation that is stored
-- supersedes.
use mathlib.Core.Path.{◌≡◌, refl, sym, ap, ◌∙◌}
use mathlib.Core.Bool.{true}
use mathlib.Core.List.{List, [], ◌∷◌, map}
use mathlib.Core.Option.{some, none}
use Prim.Native.Nat.{ℕ, zero, suc, ◌+◌, ◌*◌, ◌<◌, ◌≤◌, min, max}
use native.Mathlib.Omega.{arith}
use lib.ListN.{length, take, get_or, set, length-take, length-set}
use lib.Seq.{get_or-set_same, get_or-set_other}
use lib.Dec.{eqb, leb, ltb}
use borrow.Author.Tests.{ltb-true, ltb-false, lt-leb}
use Rattle.wire.specs.Bytes.{pick}
use Rattle.wire.proofs.Laws.{impossible, by_test}
use Rattle.rows.specs.Rows.{Described}
use Rattle.relations.specs.Cache.{Column, column_of, columns_of, superseded, counted, is_full, names_fit, fits}
use Rattle.relations.specs.Memory.{Columns, Memory, place_of, held_ids, slot_in, columns_from, count_at, relations_from, cache_of, count_in, store_from, stored}
use Rattle.relations.specs.Laws.{Sized}
use Rattle.relations.proofs.Leaves.{fits_few}
use Rattle.relations.proofs.Stored.{store_sized, store_before, store_behind, store_there, columns_same}

-- the columns of the relation in slot r
abbrev slot_columns : Memory → ℕ → List Column
slot_columns m r = columns_from m.columns (32 * r) (count_at m.counts r)

-- ---- lookups

pub place_most : (id : ℕ) (l : List ℕ) → place_of id l ≤ length l
unfolding place_of
place_most id [] = omega arith
place_most id (j ∷ l) = by_test (eqb j id) (λ t. rw t (omega arith)) (λ f. rw f (omega (arith, place_most id l)))

pub length_relations : (m : Memory) (l : List ℕ) (r : ℕ) → length (relations_from m r l) ≡ length l
unfolding relations_from
length_relations m [] r = refl
length_relations m (j ∷ l) r = ap suc (length_relations m l (suc r))

pub length_columns : (s : Columns) (n i : ℕ) → length (columns_from s i n) ≡ n
unfolding columns_from
length_columns s zero i = refl
length_columns s (suc n) i = ap suc (length_columns s n (suc i))

-- what is found is what its slot has
found : (m : Memory) (id : ℕ) (l : List ℕ) (r : ℕ) → place_of id l < length l → columns_of id (relations_from m r l) ≡ some (slot_columns m (r + place_of id l))
unfolding place_of relations_from columns_of
found m id [] r h = absurd_less h
  where
    absurd_less : {X : Type 0} → 0 < 0 → X
    absurd_less z = impossible (omega arith)
found m id (j ∷ l) r h =
    by_test (eqb j id)
    (λ t. let z : r + 0 ≡ r = omega arith in rw (t, z))
    (λ f.
    let e : r + suc (place_of id l) ≡ suc r + place_of id l = omega arith in
    let less : suc (place_of id l) < suc (length l) = rw f at h in
    rw (f, e) (found m id l (suc r) (omega arith)))

unfound : (m : Memory) (id : ℕ) (l : List ℕ) (r : ℕ) → length l ≤ place_of id l → columns_of id (relations_from m r l) ≡ none
unfolding place_of relations_from columns_of
unfound m id [] r h = refl
unfound m id (j ∷ l) r h =
    by_test (eqb j id)
    (λ t. let less : suc (length l) ≤ 0 = rw t at h in impossible (omega arith))
    (λ f. let less : suc (length l) ≤ suc (place_of id l) = rw f at h in rw f (unfound m id l (suc r) (omega arith)))

module _ (m : Memory) (id : ℕ) where
  pub slot_found : slot_in m id < length (held_ids m) → columns_of id (cache_of m) ≡ some (slot_columns m (slot_in m id))
  slot_found h = let z : 0 + slot_in m id ≡ slot_in m id = omega arith in rw z at (found m id (held_ids m) 0 h)

  pub slot_unfound : length (held_ids m) ≤ slot_in m id → columns_of id (cache_of m) ≡ none
  slot_unfound h = unfound m id (held_ids m) 0 h

  pub same_count : count_in m id ≡ counted (columns_of id (cache_of m))
  same_count =
      by_test (ltb (slot_in m id) (length (held_ids m)))
      (λ t. rw (t, slot_found (ltb-true _ _ t)) (ap (λ (n : ℕ). some n) (sym (length_columns m.columns (count_at m.counts (slot_in m id)) (32 * slot_in m id)))))
      (λ f. rw (f, slot_unfound (ltb-false _ _ f)))

  pub same_full : length m.ids ≡ 64 → leb 64 (slot_in m id) ≡ is_full (columns_of id (cache_of m)) (length (cache_of m))
  same_full z =
      let n = length-take m.held m.ids in
      let most = place_most id (held_ids m) in
      by_test (ltb (slot_in m id) (length (held_ids m)))
      (λ t.
      let less : slot_in m id < 64 = omega (arith, ltb-true (slot_in m id) (length (held_ids m)) t, n) in
      rw (slot_found (ltb-true _ _ t), lt-leb 64 (slot_in m id) less))
      (λ f.
      let e : slot_in m id ≡ length (held_ids m) = omega (arith, ltb-false (slot_in m id) (length (held_ids m)) f, most) in
      rw (slot_unfound (ltb-false _ _ f), length_relations m (held_ids m) 0, e))

-- ---- a Relation that is stored

-- identifiers with one in its place, or last
with_id : ℕ → List ℕ → List ℕ
with_id id [] = id ∷ []
with_id id (j ∷ l) = pick (eqb j id) (id ∷ l) (j ∷ with_id id l)

ids_after : (id h : ℕ) (ids : List ℕ) → place_of id (take h ids) < length ids → take (max h (suc (place_of id (take h ids)))) (set ids (place_of id (take h ids)) id) ≡ with_id id (take h ids)
unfolding place_of with_id
ids_after id zero [] z = impossible (omega arith)
ids_after id zero (x ∷ ids) z = refl
ids_after id (suc h) [] z = impossible (omega arith)
ids_after id (suc h) (x ∷ ids) z =
    by_test (eqb x id)
    (λ t. let e : max (suc h) 1 ≡ suc h = omega arith in rw (t, e))
    (λ f.
    let p : ℕ = place_of id (take h ids) in
    let less : suc p < suc (length ids) = rw f at z in
    let e : max (suc h) (suc (suc p)) ≡ suc (max h (suc p)) = omega arith in
    rw (f, e) (ap (λ (l : List ℕ). x ∷ l) (ids_after id h ids (omega arith))))

module _ (m m' : Memory) (id : ℕ) (cs : List Column) where
  same_behind : (l : List ℕ) (r : ℕ) → ((q : ℕ) → r ≤ q → slot_columns m' q ≡ slot_columns m q) → relations_from m' r l ≡ relations_from m r l
  unfolding relations_from
  same_behind [] r h = refl
  same_behind (j ∷ l) r h = rw (h r (omega arith), same_behind l (suc r) (λ q a. h q (omega arith)))

  supersedes : (l : List ℕ) (r : ℕ) → ((q : ℕ) → (q ≡ r + place_of id l → ⊥) → slot_columns m' q ≡ slot_columns m q) → slot_columns m' (r + place_of id l) ≡ cs
      → relations_from m' r (with_id id l) ≡ superseded id cs (relations_from m r l)
  unfolding relations_from superseded with_id place_of
  supersedes [] r h e = let z : r + 0 ≡ r = omega arith in let e' : slot_columns m' r ≡ cs = rw z at e in rw e'
  supersedes (j ∷ l) r h e =
      by_test (eqb j id)
      (λ t.
      let z : r + 0 ≡ r = omega arith in
      let e' : slot_columns m' r ≡ cs = rw (t, z) at e in
      let g : (q : ℕ) → (q ≡ r + 0 → ⊥) → slot_columns m' q ≡ slot_columns m q = rw t at h in
      rw (t, e', same_behind l (suc r) (λ q a. g q (λ x. omega arith))))
      (λ f.
      let z : r + suc (place_of id l) ≡ suc r + place_of id l = omega arith in
      let e' : slot_columns m' (suc r + place_of id l) ≡ cs = rw (f, z) at e in
      let g : (q : ℕ) → (q ≡ r + suc (place_of id l) → ⊥) → slot_columns m' q ≡ slot_columns m q = rw f at h in
      rw (f, g r (λ x. omega arith), supersedes l (suc r) (λ q a. g q (λ x. a (omega arith))) e'))

module _ (m : Memory) (z : Sized m) (r id : ℕ) (ds : List Described) (h : r < 64) (f : fits ds ≡ true) where
  few : (length ds ≤ 32) × (names_fit ds ≡ true)
  few = fits_few ds (sym f)

  in_room : 32 * r + length ds ≤ 2048
  in_room = omega (arith, few.0)

  pub stored_sized : Sized (stored m r id ds)
  stored_sized =
      record {
        ids = length-set m.ids r id ∙ z.ids;
        counts = length-set m.counts r (length ds) ∙ z.counts;
        columns = store_sized ds (32 * r) m.columns z.columns few.1 in_room;
      }

  stored_other : (q : ℕ) → (q ≡ r → ⊥) → slot_columns (stored m r id ds) q ≡ slot_columns m q
  stored_other q n =
      let c : get_or (set m.counts r (length ds)) q 0 ≡ get_or m.counts q 0 = get_or-set_other m.counts r q (length ds) 0 n in
      let k : ℕ = count_at m.counts q in
      rw c
      (columns_same (store_from (32 * r) ds m.columns) m.columns k (32 * q)
      (λ j a b.
      by_test (ltb j (32 * r))
      (λ t. store_before ds (32 * r) m.columns z.columns few.1 in_room j (ltb-true _ _ t))
      (λ g. store_behind ds (32 * r) m.columns z.columns few.1 in_room j (beyond q n j a b (ltb-false _ _ g)))))
    where
      beyond : (q : ℕ) → (q ≡ r → ⊥) → (j : ℕ) → 32 * q ≤ j → j < 32 * q + count_at m.counts q → 32 * r ≤ j → 32 * r + length ds ≤ j
      beyond q n j a b g =
          by_test (ltb r q)
          (λ t. omega (arith, ltb-true r q t, few.0))
          (λ e. absurd (n (omega (arith, ltb-false r q e))))

  stored_there : slot_columns (stored m r id ds) r ≡ map column_of ds
  stored_there =
      let c : get_or (set m.counts r (length ds)) r 0 ≡ length ds = get_or-set_same m.counts r (length ds) 0 (omega (arith, z.counts)) in
      let n : min (length ds) 32 ≡ length ds = omega (arith, few.0) in
      rw (c, n) (store_there ds (32 * r) m.columns z.columns few.1 in_room)

-- in its own slot, it supersedes
pub stored_supersedes : (m : Memory) → Sized m → (id : ℕ) (ds : List Described) → slot_in m id < 64 → fits ds ≡ true
    → cache_of (stored m (slot_in m id) id ds) ≡ superseded id (map column_of ds) (cache_of m)
stored_supersedes m z id ds h f =
    let r : ℕ = slot_in m id in
    let e : take (max m.held (suc r)) (set m.ids r id) ≡ with_id id (held_ids m) = ids_after id m.held m.ids (omega (arith, z.ids)) in
    let y : 0 + r ≡ r = omega arith in
    rw e
    (supersedes m (stored m r id ds) id (map column_of ds) (held_ids m) 0 (λ q n. stored_other m z r id ds h f q (λ x. n (x ∙ sym y)))
    (rw y (stored_there m z r id ds h f)))
