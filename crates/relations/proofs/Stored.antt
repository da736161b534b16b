-- What is stored in the columns, and what stays of the others.
use mathlib.Core.Path.{◌≡◌, refl, sym, ap, ◌∙◌}
use mathlib.Core.Bool.{true}
use mathlib.Core.List.{List, [], ◌∷◌, ◌++◌, map, append_assoc}
use Prim.Native.Nat.{ℕ, zero, suc, ◌+◌, ◌*◌, ◌-◌, ◌<◌, ◌≤◌, min}
use native.Mathlib.Omega.{arith}
use lib.ListN.{length, take, drop, get_or, length-take, length-drop, length-append, length-set}
use lib.Seq.{drop-append-le, take-append-le, drop-append-add, drop-append_seam, take-append_seam, drop-drop, get_or-set_same, get_or-set_other}
use lib.Dec.{eqb, leb}
use borrow.Author.Tests.{eqb-true, eqb-false, le-leb, leb-true, leb-false}
use Rattle.wire.specs.Bytes.{at, put, placed}
use Rattle.wire.proofs.Laws.{part_of_front, length_put, by_test}
use Rattle.rows.specs.Rows.{Described, described}
use Rattle.relations.specs.Cache.{column, column_of, is_key, names_fit}
use Rattle.relations.specs.Memory.{Columns, column_in, columns_from, store_column, store_from}
use Rattle.relations.specs.Laws.{SizedColumns}
use Rattle.relations.proofs.Leaves.{name_short}

-- ---- bytes beside those that are written

module _ (d v : List ℕ) (a : ℕ) (fits : a + length v ≤ length d) where
  front : length (take a d) ≡ a
  front = omega (arith, length-take a d)

  put_before : (b k : ℕ) → b + k ≤ a → at (put d a v) b k ≡ at d b k
  unfolding put
  put_before b k h =
      let x : List ℕ = v ++ drop (a + length v) d in
      let e : drop b (take a d ++ x) ≡ drop b (take a d) ++ x = drop-append-le b (take a d) x (omega (arith, front)) in
      let l : k ≤ length (drop b (take a d)) = simp (length-drop) (omega (arith, front)) in
      rw e (take-append-le k (drop b (take a d)) x l ∙ part_of_front a b k d h)

  put_behind : (b k : ℕ) → a + length v ≤ b → at (put d a v) b k ≡ at d b k
  unfolding put
  put_behind b k h =
      let x : List ℕ = drop (a + length v) d in
      let c : ℕ = b - (a + length v) in
      let n : length (take a d ++ v) ≡ a + length v = omega (arith, front, length-append (take a d) v) in
      let z : b ≡ length (take a d ++ v) + c = omega (arith, n) in
      let w : a + length v + c ≡ b = omega arith in
      let e : drop b (take a d ++ (v ++ x)) ≡ drop b d =
      rw (← append_assoc (take a d) v x) (ap (λ (q : ℕ). drop q ((take a d ++ v) ++ x)) z ∙ drop-append-add (take a d ++ v) x c ∙ drop-drop c (a + length v) d ∙ ap (λ (q : ℕ). drop q d) w) in
      rw e

  put_there : at (put d a v) a (length v) ≡ v
  unfolding put
  put_there =
      let x : List ℕ = drop (a + length v) d in
      let e : drop a (take a d ++ (v ++ x)) ≡ v ++ x = ap (λ (q : ℕ). drop q (take a d ++ (v ++ x))) (sym front) ∙ drop-append_seam (take a d) (v ++ x) in
      rw e (take-append_seam v x)

-- ---- one column

lt_of : (i j : ℕ) → (j ≡ i → ⊥) → i < suc j → i < j
lt_of i j n h = by_test (eqb j i) (λ t. absurd (n (eqb-true j i t))) (λ f. omega (arith, eqb-false j i f))

module _ (i flags : ℕ) (v : List ℕ) (oid : ℕ) (s : Columns) (z : SizedColumns s) (h : i < 2048) (short : length v ≤ 63) where
  room : 63 * i + length v ≤ length s.names
  room = omega (arith, z.names)

  names_put : (placed s.names (63 * i) v).1 ≡ put s.names (63 * i) v
  unfolding placed
  names_put = rw (le-leb _ _ room)

  pub one_sized : SizedColumns (store_column i flags v oid s)
  one_sized =
      record {
        types = length-set s.types i oid ∙ z.types;
        flags = length-set s.flags i flags ∙ z.flags;
        lens = length-set s.lens i (length v) ∙ z.lens;
        names = rw names_put (length_put s.names v (63 * i) room ∙ z.names);
      }

  name_other : (j k : ℕ) → k ≤ 63 → (j ≡ i → ⊥) → at (put s.names (63 * i) v) (63 * j) k ≡ at s.names (63 * j) k
  name_other j k few n =
      by_test (leb (suc j) i)
      (λ t. let less : suc j ≤ i = leb-true (suc j) i t in put_before s.names v (63 * i) room (63 * j) k (omega arith))
      (λ f. let more : i < suc j = leb-false (suc j) i f in let over : i < j = lt_of i j n more in put_behind s.names v (63 * i) room (63 * j) k (omega arith))

  pub one_other : (j : ℕ) → (j ≡ i → ⊥) → column_in (store_column i flags v oid s) j ≡ column_in s j
  one_other j n =
      rw (
        names_put,
        get_or-set_other s.types i j oid 0 n,
        get_or-set_other s.flags i j flags 0 n,
        get_or-set_other s.lens i j (length v) 0 n,
        name_other j (min (get_or s.lens j 0) 63) (omega arith) n,
      )

  pub one_there : column_in (store_column i flags v oid s) i ≡ column v (is_key flags) oid
  one_there =
      let m : min (length v) 63 ≡ length v = omega arith in
      rw (
        names_put,
        get_or-set_same s.types i oid 0 (omega (arith, z.types)),
        get_or-set_same s.flags i flags 0 (omega (arith, z.flags)),
        get_or-set_same s.lens i (length v) 0 (omega (arith, z.lens)),
        m,
        put_there s.names v (63 * i) room,
      )

-- ---- columns one after the other

pub store_sized : (ds : List Described) (i : ℕ) (s : Columns) → SizedColumns s → names_fit ds ≡ true → i + length ds ≤ 2048 → SizedColumns (store_from i ds s)
unfolding store_from
store_sized [] i s z f h = z
store_sized (described flags v oid modifier ∷ ds) i s z f h =
    let w = name_short flags v oid modifier ds f in
    store_sized ds (suc i) (store_column i flags v oid s) (one_sized i flags v oid s z (omega arith) w.0) w.1 (omega arith)

-- a column before the first, and one behind the last
pub store_before : (ds : List Described) (i : ℕ) (s : Columns) → SizedColumns s → names_fit ds ≡ true → i + length ds ≤ 2048 → (j : ℕ) → j < i
    → column_in (store_from i ds s) j ≡ column_in s j
unfolding store_from
store_before [] i s z f h j b = refl
store_before (described flags v oid modifier ∷ ds) i s z f h j b =
    let w = name_short flags v oid modifier ds f in
    store_before ds (suc i) (store_column i flags v oid s) (one_sized i flags v oid s z (omega arith) w.0) w.1 (omega arith) j (omega arith)
    ∙ one_other i flags v oid s z (omega arith) w.0 j (λ e. omega arith)

pub store_behind : (ds : List Described) (i : ℕ) (s : Columns) → SizedColumns s → names_fit ds ≡ true → i + length ds ≤ 2048 → (j : ℕ) → i + length ds ≤ j
    → column_in (store_from i ds s) j ≡ column_in s j
unfolding store_from
store_behind [] i s z f h j b = refl
store_behind (described flags v oid modifier ∷ ds) i s z f h j b =
    let w = name_short flags v oid modifier ds f in
    store_behind ds (suc i) (store_column i flags v oid s) (one_sized i flags v oid s z (omega arith) w.0) w.1 (omega arith) j (omega arith)
    ∙ one_other i flags v oid s z (omega arith) w.0 j (λ e. omega arith)

pub store_there : (ds : List Described) (i : ℕ) (s : Columns) → SizedColumns s → names_fit ds ≡ true → i + length ds ≤ 2048
    → columns_from (store_from i ds s) i (length ds) ≡ map column_of ds
unfolding store_from columns_from
store_there [] i s z f h = refl
store_there (described flags v oid modifier ∷ ds) i s z f h =
    let w = name_short flags v oid modifier ds f in
    let t : Columns = store_column i flags v oid s in
    let zt = one_sized i flags v oid s z (omega arith) w.0 in
    let a : column_in (store_from (suc i) ds t) i ≡ column v (is_key flags) oid =
    store_before ds (suc i) t zt w.1 (omega arith) i (omega arith) ∙ one_there i flags v oid s z (omega arith) w.0 in
    rw (a, store_there ds (suc i) t zt w.1 (omega arith))

-- columns that stay
pub columns_same : (s t : Columns) (k i : ℕ) → ((j : ℕ) → i ≤ j → j < i + k → column_in s j ≡ column_in t j) → columns_from s i k ≡ columns_from t i k
unfolding columns_from
columns_same s t zero i h = refl
columns_same s t (suc k) i h = rw (h i (omega arith) (omega arith), columns_same s t k (suc i) (λ j a b. h j (omega arith) (omega arith)))
