-- What was read ends in the data, and each reader goes on.
use mathlib.Core.Path.{◌≡◌, refl, sym, ap, ◌∙◌}
use mathlib.Core.List.{List, [], ◌∷◌, ◌++◌}
use mathlib.Core.Logic.{inl, inr}
use mathlib.Core.Option.{Option, some, none}
use Prim.Native.Nat.{ℕ, zero, suc, ◌+◌, ◌-◌, ◌<◌, ◌≤◌}
use native.Mathlib.Omega.{arith}
use lib.ListN.{length, drop, length-append, length-drop}
use lib.Dec.{eqb, ltb}
use borrow.Author.Tests.{ltb-false}
use Rattle.wire.specs.Bytes.{at, be_bytes}
use Rattle.wire.specs.Field.{field_at}
use Rattle.wire.specs.Int.{int_at, is_negative, int_bytes}
use Rattle.wire.specs.Find.{index_of}
use Rattle.wire.proofs.Laws.{by_test, impossible, length_be_bytes}
use Rattle.wire.proofs.FieldLaws.{field_within, int_within}
use Rattle.wire.proofs.FindLaws.{found_below}
use Rattle.rows.specs.Layout.{Layout, Letters, number, integer, name, value, many, both, nothing, letter, no_other, or, Value, Choice, Read}
use Rattle.rows.specs.Layout.{got, mapped, number_by, name_by, count_at, bytes_at, times_at, read_at, choose_at, bytes_of}
use Rattle.rows.specs.Rows.{Cell, Described, cell_bytes, described_bytes, column_letters, column_layout, described_layout, cell_of}
use Rattle.rows.specs.Rows.{described_of}
use Rattle.rows.specs.Head.{column_at, description_at, identifier_at}
use Rattle.rows.specs.RowLayout.{ReaderLaws}
use Rattle.rows.proofs.Ends.{read_ends, cell_bytes_lem}
use Rattle.rows.proofs.Places.{after_got, by_after, by_told, number_some, pick_got}
use Rattle.rows.proofs.Sent.{described_bytes_lem}

module _ (s : List ℕ) where
  count_within : (n i k j : ℕ) → count_at n s i ≡ got k j → j ≤ length s
  unfolding count_at
  count_within n i k j e =
      let w = after_got (number_by n i (field_at n s i)) _ k j e in
      let p = number_some n i (field_at n s i) w.0 w.1 w.2 in
      let q = pick_got (is_negative n w.0) (got w.0 w.1) k j w.3 in
      let h : w.1 ≡ j = cc in
      omega (arith, h, p.1, field_within n s i w.0 p.0)

  bytes_within : (n i : ℕ) (v : List ℕ) (j : ℕ) → bytes_at n s i ≡ got v j → i ≤ length s → j ≤ length s
  unfolding bytes_at
  bytes_within n i v j e l =
      let q = pick_got (ltb (length s - i) n) (got (at s i n) (i + n)) v j e in
      let h : n ≤ length s - i = ltb-false _ _ q.0 in
      let ej : j ≡ i + n = cc in
      omega arith

  name_ended : (i : ℕ) (o : Option ℕ) (v : List ℕ) (j : ℕ) → index_of 0 (drop i s) ≡ o → name_by s i o ≡ got v j → j ≤ length s
  name_ended i none v j d e = impossible cc
  name_ended i (some n) v j d e =
      let ej : j ≡ i + n + 1 = cc in
      omega (arith, found_below 0 (drop i s) n d, length-drop i s)

  times_within : {A : Type 0} (f : ℕ → Read A) → ((i : ℕ) (v : A) (j : ℕ) → f i ≡ got v j → i ≤ length s → j ≤ length s)
      → (n i : ℕ) (vs : List A) (j : ℕ) → times_at f n i ≡ got vs j → i ≤ length s → j ≤ length s
  unfolding times_at
  times_within f one zero i vs j e l = let ej : i ≡ j = cc in omega arith
  times_within f one (suc n) i vs j e l =
      by_after (f i) (λ v k. mapped (λ ws. v ∷ ws) (times_at f n k)) vs j e (λ v k p q.
      by_told (λ ws. v ∷ ws) (times_at f n k) vs j q (λ ws r ev. times_within f one n k ws j r (one i v k p l)))

  mutual
    unfolding read_at

    read_within : (l : Layout) (i : ℕ) (v : Value l) (j : ℕ) → read_at l s i ≡ got v j → i ≤ length s → j ≤ length s
    read_within (number n) i v j e l = let w = number_some n i (field_at n s i) v j e in omega (arith, w.1, field_within n s i v w.0)
    read_within integer i v j e l = let w = number_some 4 i (int_at 4 s i) v j e in omega (arith, w.1, int_within 4 s i v w.0)
    read_within name i v j e l = name_ended i (index_of 0 (drop i s)) v j refl e
    read_within value i v j e l = by_after (count_at 4 s i) (λ n k. bytes_at n s k) v j e (λ n k x y. bytes_within n k v j y (count_within 4 i n k x))
    read_within (many n a b) i v j e l =
        by_after (count_at n s i) _ v j e (λ k m x y.
        by_after (read_at a s m) _ v j y (λ u q x₁ y₁.
        by_told (λ vs. (u, vs)) (times_at (λ r. read_at b s r) k q) v j y₁ (λ vs x₂ ev.
        times_within (λ r. read_at b s r) (λ r w p. read_within b r w p) k q vs j x₂ (read_within a m u q x₁ (count_within n i k m x)))))
    read_within (both a b) i v j e l =
        by_after (read_at a s i) (λ u k. mapped (λ w. (u, w)) (read_at b s k)) v j e (λ u k x y.
        by_told (λ w. (u, w)) (read_at b s k) v j y (λ w x₁ ev. read_within b k w j x₁ (read_within a i u k x l)))
    read_within nothing i v j e l = let ej : i ≡ j = cc in omega arith
    read_within (letter ls) i w j e l =
        by_after (number_by 1 i (field_at 1 s i)) (λ c k. choose_at ls c s k) w j e (λ c k x y.
        let p = number_some 1 i (field_at 1 s i) c k x in
        choice_within ls k c w j y (omega (arith, p.1, field_within 1 s i c p.0)))

    choice_within : (ls : Letters) (i c : ℕ) (w : Choice ls) (j : ℕ) → choose_at ls c s i ≡ got w j → i ≤ length s → j ≤ length s
    choice_within no_other i c w j e l = impossible cc
    choice_within (or d a ls) i c w j e l =
        by_test (eqb c d)
        (λ t. by_told inl (read_at a s i) w j (rw t at e) (λ v x ew. read_within a i v j x l))
        (λ t. by_told inr (choose_at ls c s i) w j (rw t at e) (λ u x ew. choice_within ls i c u j x l))

  -- a reader that answers stands in the data
  letter_starts : (ls : Letters) (i : ℕ) (w : Choice ls) (j : ℕ) → read_at (letter ls) s i ≡ got w j → i ≤ length s
  unfolding read_at
  letter_starts ls i w j e =
      by_after (number_by 1 i (field_at 1 s i)) (λ c k. choose_at ls c s k) w j e (λ c k x y.
      omega (arith, field_within 1 s i c (number_some 1 i (field_at 1 s i) c k x).0))

  number_starts : (n : ℕ) (b : Layout) (i : ℕ) (v : Value (both (number n) b)) (j : ℕ) → read_at (both (number n) b) s i ≡ got v j → i ≤ length s
  unfolding read_at
  number_starts n b i v j e =
      by_after (number_by n i (field_at n s i)) (λ u k. mapped (λ w. (u, w)) (read_at b s k)) v j e (λ u k x y.
      omega (arith, field_within n s i u (number_some n i (field_at n s i) u k x).0))

  column_on : (i : ℕ) (c : Cell) (j : ℕ) → column_at s i ≡ got c j → (j ≡ i + length (cell_bytes c)) × (i < j) × (j ≤ length s)
  unfolding bytes_of
  column_on i c j e =
      by_told cell_of (read_at column_layout s i) c j e (λ v x ev.
      let b : length (bytes_of column_layout v) ≡ length (cell_bytes c) = ap length (cell_bytes_lem v ∙ ap cell_bytes (sym ev)) in
      let n = read_ends column_layout s i v j x in
      (omega (arith, b, n), omega (arith, n), read_within column_layout i v j x (letter_starts column_letters i v j x)))

  description_on : (i : ℕ) (d : Described) (j : ℕ) → description_at s i ≡ got d j → (j ≡ i + length (described_bytes d)) × (i < j) × (j ≤ length s)
  unfolding bytes_of
  description_on i d j e =
      by_told described_of (read_at described_layout s i) d j e (λ v x ev.
      let b : length (bytes_of described_layout v) ≡ length (described_bytes d) = ap length (described_bytes_lem v ∙ ap described_bytes (sym ev)) in
      let n = read_ends described_layout s i v j x in (
        omega (arith, b, n),
        omega (
          arith,
          n,
          length-append (be_bytes 1 v.0) ((v.1.0 ++ (0 ∷ [])) ++ (be_bytes 4 v.1.1.0 ++ int_bytes 4 v.1.1.1)),
          length_be_bytes 1 v.0,
        ),
        read_within described_layout i v j x (number_starts 1 (both name (both (number 4) integer)) i v j x),
      ))

  identifier_on : (i id j : ℕ) → identifier_at s i ≡ got id j → (j ≡ i + 4) × (j ≤ length s)
  unfolding read_at
  identifier_on i id j e =
      let w = number_some 4 i (field_at 4 s i) id j e in
      (w.1, omega (arith, w.1, field_within 4 s i id w.0))

pub reader_laws : ReaderLaws
reader_laws = record { column = column_on; description = description_on; identifier = identifier_on }
