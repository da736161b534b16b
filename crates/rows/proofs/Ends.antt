-- Where what was read ends: after as many bytes as its values have, whatever the data are.
use mathlib.Core.Path.{◌≡◌, refl, sym, ap, ◌∙◌}
use mathlib.Core.List.{List, [], ◌∷◌, ◌++◌, map}
use mathlib.Core.Logic.{inl, inr}
use mathlib.Core.Option.{Option, some, none}
use Prim.Native.Nat.{ℕ, zero, suc, ◌+◌}
use native.Mathlib.Omega.{arith}
use lib.ListN.{length, drop, length-append}
use lib.Dec.{eqb}
use Rattle.wire.specs.Bytes.{at, be_bytes}
use Rattle.wire.specs.Field.{field_at}
use Rattle.wire.specs.Int.{int_at, is_negative, value as int_value}
use Rattle.wire.specs.Find.{index_of}
use Rattle.wire.proofs.Laws.{by_test, impossible, length_be_bytes}
use Rattle.rows.specs.Layout.{Layout, Letters, number, integer, name, value, many, both, nothing, letter, no_other, or, Value, Choice, Read}
use Rattle.rows.specs.Layout.{got, mapped, number_by, name_by, count_at, bytes_at, times_at, read_at, choose_at, all_bytes, bytes_of}
use Rattle.rows.specs.Layout.{under_of}
use Rattle.rows.specs.Rows.{cell_bytes, column_layout, tuple_layout, cell_of, cells_of}
use Rattle.rows.proofs.Places.{after_got, by_after, by_told, number_some, pick_got, bytes_there, name_there}

count_ends : (s : List ℕ) (n i k j : ℕ) → count_at n s i ≡ got k j → j ≡ i + n
unfolding count_at
count_ends s n i k j e =
    let w = after_got (number_by n i (field_at n s i)) _ k j e in
    let p = number_some n i (field_at n s i) w.0 w.1 w.2 in
    let q = pick_got (is_negative n w.0) (got w.0 w.1) k j w.3 in
    let h : w.1 ≡ j = cc in
    sym h ∙ p.1

name_ends : (s : List ℕ) (i : ℕ) (o : Option ℕ) (v : List ℕ) (j : ℕ) → index_of 0 (drop i s) ≡ o → name_by s i o ≡ got v j
    → j ≡ i + length (v ++ (0 ∷ []))
name_ends s i none v j d e = impossible cc
name_ends s i (some n) v j d e =
    let ev : v ≡ at s i n = cc in
    let ej : j ≡ i + n + 1 = cc in
    rw (ej, ev) (name_there s i n d).2.ends

times_end : {A : Type 0} (f : ℕ → Read A) (g : A → List ℕ) → ((i : ℕ) (v : A) (j : ℕ) → f i ≡ got v j → j ≡ i + length (g v))
    → (n i : ℕ) (vs : List A) (j : ℕ) → times_at f n i ≡ got vs j → (length vs ≡ n) × (j ≡ i + length (all_bytes g vs))
unfolding times_at all_bytes
times_end f g one zero i vs j e =
    let ev : vs ≡ [] = cc in
    let ej : j ≡ i = cc in
    rw (ev, ej) (refl, omega arith)
times_end f g one (suc n) i vs j e =
    by_after (f i) (λ v k. mapped (λ ws. v ∷ ws) (times_at f n k)) vs j e (λ v k p q.
    by_told (λ ws. v ∷ ws) (times_at f n k) vs j q (λ ws r ev.
    let t = times_end f g one n k ws j r in
    rw ev (ap suc t.0, omega (arith, t.1, one i v k p, length-append (g v) (all_bytes g ws)))))

mutual
  unfolding read_at bytes_of

  pub read_ends : (l : Layout) (s : List ℕ) (i : ℕ) (v : Value l) (j : ℕ) → read_at l s i ≡ got v j → j ≡ i + length (bytes_of l v)
  read_ends (number n) s i v j e = omega (arith, (number_some n i (field_at n s i) v j e).1, length_be_bytes n v)
  read_ends integer s i v j e = omega (arith, (number_some 4 i (int_at 4 s i) v j e).1, length_be_bytes 4 (int_value 4 v))
  read_ends name s i v j e = name_ends s i (index_of 0 (drop i s)) v j refl e
  read_ends value s i v j e =
      by_after (count_at 4 s i) (λ n k. bytes_at n s k) v j e (λ n k x y.
      omega (arith, count_ends s 4 i n k x, (bytes_there s n k v j y).2.ends, length_be_bytes 4 (length v), length-append (be_bytes 4 (length v)) v))
  read_ends (many n a b) s i v j e =
      by_after (count_at n s i) _ v j e (λ k m x y.
      by_after (read_at a s m) _ v j y (λ u q x₁ y₁.
      by_told (λ vs. (u, vs)) (times_at (λ r. read_at b s r) k q) v j y₁ (λ vs x₂ ev.
      let t = times_end (λ r. read_at b s r) (λ w. bytes_of b w) (λ r w p. read_ends b s r w p) k q vs j x₂ in
      rw ev (omega (
        arith,
        count_ends s n i k m x,
        read_ends a s m u q x₁,
        t.1,
        length_be_bytes n (length vs),
        length-append (be_bytes n (length vs)) (bytes_of a u ++ all_bytes (λ w. bytes_of b w) vs),
        length-append (bytes_of a u) (all_bytes (λ w. bytes_of b w) vs),
      )))))
  read_ends (both a b) s i v j e =
      by_after (read_at a s i) (λ u k. mapped (λ w. (u, w)) (read_at b s k)) v j e (λ u k x y.
      by_told (λ w. (u, w)) (read_at b s k) v j y (λ w x₁ ev.
      rw ev (omega (arith, read_ends a s i u k x, read_ends b s k w j x₁, length-append (bytes_of a u) (bytes_of b w)))))
  read_ends nothing s i v j e =
      let ej : j ≡ i = cc in
      rw ej (omega arith)
  read_ends (letter ls) s i w j e =
      by_after (number_by 1 i (field_at 1 s i)) (λ c k. choose_at ls c s k) w j e (λ c k x y.
      omega (arith, (number_some 1 i (field_at 1 s i) c k x).1, choice_ends ls s k c w j y))

  choice_ends : (ls : Letters) (s : List ℕ) (i c : ℕ) (w : Choice ls) (j : ℕ) → choose_at ls c s i ≡ got w j → j ≡ i + length (under_of ls w)
  choice_ends no_other s i c w j e = impossible cc
  choice_ends (or d a ls) s i c w j e =
      by_test (eqb c d)
      (λ t. by_told inl (read_at a s i) w j (rw t at e) (λ v x ew. rw ew (read_ends a s i v j x)))
      (λ t. by_told inr (choose_at ls c s i) w j (rw t at e) (λ u x ew. rw ew (choice_ends ls s i c u j x)))

-- ---- a tuple's bytes

pub cell_bytes_lem : (v : Value column_layout) → bytes_of column_layout v ≡ cell_bytes (cell_of v)
unfolding bytes_of cell_bytes
cell_bytes_lem (inl v) = refl
cell_bytes_lem (inr (inl v)) = refl
cell_bytes_lem (inr (inr (inl v))) = refl
cell_bytes_lem (inr (inr (inr (inl v)))) = refl
cell_bytes_lem (inr (inr (inr (inr e)))) = absurd e

pub all_map : {A B : Type 0} (f : A → List ℕ) (g : B → List ℕ) (h : A → B) → ((v : A) → f v ≡ g (h v)) → (vs : List A)
    → all_bytes f vs ≡ all_bytes g (map h vs)
unfolding all_bytes
all_map f g h e [] = refl
all_map f g h e (v ∷ vs) = rw (e v, all_map f g h e vs)

-- a tuple ends after its count and its columns
pub tuple_ends : (s : List ℕ) (i : ℕ) (v : Value tuple_layout) (j : ℕ) → read_at tuple_layout s i ≡ got v j
    → j ≡ i + 2 + length (all_bytes cell_bytes (cells_of v))
unfolding bytes_of
tuple_ends s i v j e =
    let w = all_map (λ x. bytes_of column_layout x) cell_bytes cell_of cell_bytes_lem v.1 in
    let l : length (all_bytes (λ x. bytes_of column_layout x) v.1) ≡ length (all_bytes cell_bytes (cells_of v)) = ap length w in
    omega (
      arith,
      read_ends tuple_layout s i v j e,
      l,
      length-append (be_bytes 2 (length v.1)) (all_bytes (λ x. bytes_of column_layout x) v.1),
      length_be_bytes 2 (length v.1),
    )
