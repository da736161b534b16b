-- Data that end within the bytes of values: the field that is cut is the first bad one.
use mathlib.Core.Path.{◌≡◌, refl, sym, ap, ◌∙◌}
use mathlib.Core.Bool.{false}
use mathlib.Core.List.{List, [], ◌∷◌, ◌++◌}
use mathlib.Core.Logic.{◌⊎◌, inl, inr, ⊎_elim}
use mathlib.Core.Option.{none}
use Prim.Native.Char.{code}
use Prim.Native.Nat.{ℕ, ◌+◌, ◌-◌, ◌<◌}
use native.Mathlib.Omega.{arith}
use lib.ListN.{length, drop, length-append, length-drop}
use lib.Seq.{drop-drop, drop-append_seam}
use borrow.Author.Tests.{eq-eqb, ne_eqb, lt-ltb}
use Rattle.wire.specs.Bytes.{be_bytes}
use Rattle.wire.specs.Field.{field_at}
use Rattle.wire.specs.Int.{value as int_value}
use Rattle.wire.specs.Find.{NoZero}
use Rattle.wire.proofs.Laws.{length_be_bytes}
use Rattle.wire.proofs.FieldLaws.{field_cut, be_bytes_one}
use Rattle.wire.proofs.FindLaws.{no_zero}
use Rattle.rows.specs.Layout.{Letters, number, integer, name, value, many, both, nothing, letter, no_other, or, Choice, Read}
use Rattle.rows.specs.Layout.{got, cut, bytes_at, times_at, read_at, choose_at, all_bytes, bytes_of, letter_of, under_of, All, Fits}
use Rattle.rows.specs.Layout.{ChoiceFits, ProperLetters, Stands, CutIsRefused}
use Rattle.rows.specs.Rows.{Row, relation, type, origin, insert, update, update_from, delete, truncate, row_bytes, row_layout}
use Rattle.rows.specs.Rows.{boundary_letter, is_boundary, row_said}
use Rattle.rows.specs.RowLayout.{CutRowIsRefused}
use Rattle.rows.proofs.BothWays.{other_letter, letter_below, written_is_read}
use Rattle.rows.proofs.Places.{number_read, count_read}
use Rattle.rows.proofs.Sent.{row_proper, row_fits, row_value, row_value_bytes}
use Rattle.rows.proofs.Steps.{count_cut}

-- ---- where data end in one of two lists

abbrev Within : List ℕ → List ℕ → Type 0
Within x a = (z : List ℕ) × (x ++ z ≡ a) × (0 < length z)

abbrev Past : List ℕ → List ℕ → List ℕ → List ℕ → Type 0
Past x y a b = (z : List ℕ) × (x ≡ a ++ z) × (z ++ y ≡ b)

front : (x y a b : List ℕ) → x ++ y ≡ a ++ b → Within x a ⊎ Past x y a b
front x y [] b e = inr (x, refl, e)
front [] y (c ∷ a) b e = inl (c ∷ a, refl, omega arith)
front (d ∷ x) y (c ∷ a) b e =
    let f : d ∷ (x ++ y) ≡ c ∷ (a ++ b) = e in
    let h : d ≡ c = cc in
    let t : x ++ y ≡ a ++ b = cc in
    ⊎_elim
    (λ (w : Within x a). inl (w.0, (cc), w.2))
    (λ (w : Past x y a b). inr (w.0, (cc), w.2))
    (front x y a b t)

by_front : {X : Type 0} (x y a b : List ℕ) → x ++ y ≡ a ++ b → ((z : List ℕ) → x ++ z ≡ a → 0 < length z → X)
    → ((z : List ℕ) → x ≡ a ++ z → z ++ y ≡ b → X) → X
by_front x y a b e f g = ⊎_elim (λ (w : Within x a). f w.0 w.1 w.2) (λ (w : Past x y a b). g w.0 w.1 w.2) (front x y a b e)

empty : {X : Type 0} (x y : List ℕ) → x ++ y ≡ [] → 0 < length y → X
empty x y e h = absurd (omega (arith, ap length e, length-append x y))

module _ (s : List ℕ) where
  -- what stands in front, and what follows
  stood : (i : ℕ) (x a z : List ℕ) → drop i s ≡ x → x ≡ a ++ z → Stands s i a (i + length a) × (drop (i + length a) s ≡ z)
  stood i x a z d e =
      let t : drop (i + length a) s ≡ z = sym (drop-drop (length a) i s) ∙ rw (d, e) (drop-append_seam a z) in
      (record { whole = d ∙ (e ∙ ap (λ (l : List ℕ). a ++ l) (sym t)); ends = refl }, t)

  -- ---- fields

  number_ends : (n i v : ℕ) (x y : List ℕ) → 0 < n → drop i s ≡ x → x ++ y ≡ be_bytes n v → 0 < length y → field_at n s i ≡ none
  number_ends n i v x y p d e h = field_cut n s i (omega (arith, length-drop i s, ap length d, ap length e, length-append x y, length_be_bytes n v))

  passed : (x y v : List ℕ) → NoZero v → x ++ y ≡ v ++ (0 ∷ []) → 0 < length y → NoZero x
  passed [] y v n e h = tt
  passed (a ∷ x) y [] n e h =
      let f : a ∷ (x ++ y) ≡ 0 ∷ [] = e in
      let t : x ++ y ≡ [] = cc in
      empty x y t h
  passed (a ∷ x) y (b ∷ v) n e h =
      let f : a ∷ (x ++ y) ≡ b ∷ (v ++ (0 ∷ [])) = e in
      let g : b ≡ a = cc in
      let t : x ++ y ≡ v ++ (0 ∷ []) = cc in
      ((λ q. n.0 (g ∙ q)), passed x y v n.1 t h)

  bytes_end : (i : ℕ) (v x y : List ℕ) → drop i s ≡ x → x ++ y ≡ v → 0 < length y → bytes_at (length v) s i ≡ cut
  unfolding bytes_at
  bytes_end i v x y d e h =
      let l : length s - i < length v = omega (arith, length-drop i s, ap length d, ap length e, length-append x y) in
      simp (lt-ltb _ _ l)

  times_end : {A : Type 0} (f : ℕ → Read A) (g : A → List ℕ) (P : A → Type 0)
      → ((v : A) (i j : ℕ) → P v → Stands s i (g v) j → f i ≡ got v j)
      → ((v : A) (i : ℕ) (x y : List ℕ) → P v → drop i s ≡ x → x ++ y ≡ g v → 0 < length y → f i ≡ cut)
      → (vs : List A) (i : ℕ) (x y : List ℕ) → All P vs → drop i s ≡ x → x ++ y ≡ all_bytes g vs → 0 < length y → times_at f (length vs) i ≡ cut
  unfolding times_at all_bytes
  times_end f g P one ends [] i x y a d e h = empty x y e h
  times_end f g P one ends (v ∷ vs) i x y a d e h =
      by_front x y (g v) (all_bytes g vs) e
      (λ z p q. rw (ends v i x z a.0 d p q))
      (λ z p q.
      let w = stood i x (g v) z d p in
      rw (one v i (i + length (g v)) a.0 w.0, times_end f g P one ends vs (i + length (g v)) z y a.1 w.1 q h))

mutual
  unfolding read_at bytes_of Fits

  pub cut_is_refused : CutIsRefused
  cut_is_refused (number n) p s i v x y f d e h = rw (number_ends s n i v x y p d e h)
  cut_is_refused integer p s i v x y f d e h = rw (number_ends s 4 i (int_value 4 v) x y (omega arith) d e h)
  cut_is_refused name p s i v x y f d e h = rw (d, no_zero x (passed s x y v f e h))
  cut_is_refused value p s i v x y f d e h =
      by_front x y (be_bytes 4 (length v)) v e
      (λ z q l. rw (count_cut s i 4 (number_ends s 4 i (length v) x z (omega arith) d q l)))
      (λ z q l.
      let w = stood s i x (be_bytes 4 (length v)) z d q in
      rw (count_read s 4 i (length v) (i + length (be_bytes 4 (length v))) (omega arith) f w.0)
      (bytes_end s (i + length (be_bytes 4 (length v))) v z y w.1 l h))
  cut_is_refused (many n a b) p s i v x y f d e h =
      let k : ℕ = length v.1 in
      by_front x y (be_bytes n k) (bytes_of a v.0 ++ all_bytes (λ w. bytes_of b w) v.1) e
      (λ z q l. rw (count_cut s i n (number_ends s n i k x z p.0 d q l)))
      (λ z q l.
      let w = stood s i x (be_bytes n k) z d q in
      let j : ℕ = i + length (be_bytes n k) in
      by_front z y (bytes_of a v.0) (all_bytes (λ w. bytes_of b w) v.1) l
      (λ z₁ q₁ l₁. rw (count_read s n i k j p.0 f.0 w.0, cut_is_refused a p.1 s j v.0 z z₁ f.1 w.1 q₁ l₁))
      (λ z₁ q₁ l₁.
      let w₁ = stood s j z (bytes_of a v.0) z₁ w.1 q₁ in
      let m : ℕ = j + length (bytes_of a v.0) in
      rw (
        count_read s n i k j p.0 f.0 w.0,
        written_is_read a p.1 s j v.0 m f.1 w₁.0,
        times_end s (λ q. read_at b s q) (λ w. bytes_of b w) (λ w. Fits b w) (λ u q r. written_is_read b p.2 s q u r)
            (λ u q. cut_is_refused b p.2 s q u)
            v.1 m z₁ y f.2 w₁.1 l₁ h,
      )))
  cut_is_refused (both a b) p s i v x y f d e h =
      by_front x y (bytes_of a v.0) (bytes_of b v.1) e
      (λ z q l. rw (cut_is_refused a p.0 s i v.0 x z f.0 d q l))
      (λ z q l.
      let w = stood s i x (bytes_of a v.0) z d q in
      let j : ℕ = i + length (bytes_of a v.0) in
      rw (written_is_read a p.0 s i v.0 j f.0 w.0, cut_is_refused b p.1 s j v.1 z y f.1 w.1 l h))
  cut_is_refused nothing p s i v x y f d e h = empty x y e h
  cut_is_refused (letter ls) p s i w x y f d e h =
      let b = letter_below ls w p in
      let o : be_bytes 1 (letter_of ls w) ≡ letter_of ls w ∷ [] = be_bytes_one (letter_of ls w) b in
      by_front x y (letter_of ls w ∷ []) (under_of ls w) e
      (λ z q l. rw (number_ends s 1 i (letter_of ls w) x z (omega arith) d (q ∙ sym o) l))
      (λ z q l.
      let u = stood s i x (letter_of ls w ∷ []) z d q in
      let n = number_read s 1 i (letter_of ls w) (i + 1) (omega arith) b (rw o u.0) in
      rw n.0 (choice_cut ls p s (i + 1) w z y f u.1 l h))

  choice_cut : (ls : Letters) → ProperLetters ls → (s : List ℕ) (i : ℕ) (w : Choice ls) (x y : List ℕ) → ChoiceFits ls w → drop i s ≡ x
      → x ++ y ≡ under_of ls w → 0 < length y
      → choose_at ls (letter_of ls w) s i ≡ cut
  choice_cut no_other p s i w x y f d e h = absurd w
  choice_cut (or c a ls) p s i (inl v) x y f d e h = simp (eq-eqb c c refl) (rw (cut_is_refused a p.1 s i v x y f d e h))
  choice_cut (or c a ls) p s i (inr w) x y f d e h =
      simp (ne_eqb (letter_of ls w) c (other_letter ls c w p.2)) (rw (choice_cut ls p.3 s i w x y f d e h))

-- ---- rows

no_boundary : (c : ℕ) (t x y : List ℕ) → boundary_letter c ≡ false → x ++ y ≡ c ∷ t → is_boundary x ≡ false
no_boundary c t [] y b e = refl
no_boundary c t (d ∷ x) y b e =
    let f : d ∷ (x ++ y) ≡ c ∷ t = e in
    let h : d ≡ c = cc in
    rw h b

row_front : (r : Row) (x y : List ℕ) → x ++ y ≡ row_bytes r → is_boundary x ≡ false
unfolding row_bytes
row_front (relation id space v identity cs) x y e = no_boundary (code "R") _ x y refl e
row_front (type id space v) x y e = no_boundary (code "Y") _ x y refl e
row_front (origin position v) x y e = no_boundary (code "O") _ x y refl e
row_front (insert id new) x y e = no_boundary (code "I") _ x y refl e
row_front (update id new) x y e = no_boundary (code "U") _ x y refl e
row_front (update_from id which old new) x y e = no_boundary (code "U") _ x y refl e
row_front (delete id which old) x y e = no_boundary (code "D") _ x y refl e
row_front (truncate options ids) x y e = no_boundary (code "T") _ x y refl e

pub cut_row_is_refused : CutRowIsRefused
unfolding row_said
cut_row_is_refused r x y f e h =
    rw (row_front r x y e, cut_is_refused row_layout row_proper x 0 (row_value r) x y (row_fits r f) refl (e ∙ sym (row_value_bytes r)) h)
