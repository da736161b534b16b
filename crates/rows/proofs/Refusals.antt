-- With more data what was read is read again, and a wrong letter stays one; and no reading has another refusal than the two.
use mathlib.Core.Path.{◌≡◌, refl, sym, ap, ◌∙◌}
use mathlib.Core.Bool.{Bool, true, false}
use mathlib.Core.List.{List, [], ◌∷◌, ◌++◌, append_assoc}
use mathlib.Core.Logic.{◌⊎◌, inl, inr}
use mathlib.Core.Option.{Option, some, none}
use Prim.Native.Nat.{ℕ, zero, suc, ◌+◌, ◌-◌, ◌≤◌}
use native.Mathlib.Omega.{arith}
use lib.ListN.{length, take, drop, length-append, length-take, length-drop}
use lib.Seq.{take-append-le, drop-append-le}
use lib.Dec.{eqb, leb, ltb}
use lib.IntN.{ℤ}
use borrow.Author.Tests.{le-leb, le-ltb, ltb-false}
use Rattle.wire.specs.Bytes.{be, at, pick}
use Rattle.wire.specs.Field.{field_at, signed_of}
use Rattle.wire.specs.Find.{index_of}
use Rattle.wire.specs.Int.{half, is_negative}
use Rattle.wire.proofs.FieldLaws.{field_within}
use Rattle.wire.proofs.FindLaws.{found_at, found_below, zero_at}
use Rattle.wire.proofs.Laws.{by_test, impossible}
use Rattle.rows.specs.Layout.{Layout, Letters, number, integer, name, value, many, both, nothing, letter, no_other, or, Value, Read}
use Rattle.rows.specs.Layout.{got, refused, cut, after, mapped, number_by, name_by, count_at, bytes_at, times_at, read_at, choose_at}
use Rattle.rows.specs.Rows.{row_layout, row_of, no_row, refused_by, is_boundary, said_of, row_said}
use Rattle.rows.specs.Refusals.{RefusalsAreTwo, WrongLetterCounts}

-- ---- the two refusals

abbrev Two : {A : Type 0} → Read A → Type 0
Two (got v j) = Unit
Two (refused n) = (n ≡ 26) ⊎ (n ≡ 27)

two_after : {A B : Type 0} (r : Read A) (f : A → ℕ → Read B) → Two r → ((v : A) (j : ℕ) → Two (f v j)) → Two (after r f)
two_after (got v j) f h k = k v j
two_after (refused n) f h k = h

two_mapped : {A B : Type 0} (f : A → B) (r : Read A) → Two r → Two (mapped f r)
two_mapped f (got v j) h = tt
two_mapped f (refused n) h = h

two_number : {A : Type 0} (n i : ℕ) (o : Option A) → Two (number_by n i o)
two_number n i none = inl refl
two_number n i (some v) = tt

two_name : (s : List ℕ) (i : ℕ) (o : Option ℕ) → Two (name_by s i o)
two_name s i none = inl refl
two_name s i (some n) = tt

two_picked : {A : Type 0} (b : Bool) (v : A) (j : ℕ) → Two (pick b cut (got v j))
two_picked true v j = inl refl
two_picked false v j = tt

two_count : (n : ℕ) (s : List ℕ) (i : ℕ) → Two (count_at n s i)
unfolding count_at
two_count n s i = two_after (number_by n i (field_at n s i)) _ (two_number n i (field_at n s i)) (λ v j. two_picked (is_negative n v) v j)

two_bytes : (n : ℕ) (s : List ℕ) (i : ℕ) → Two (bytes_at n s i)
unfolding bytes_at
two_bytes n s i = two_picked (ltb (length s - i) n) (at s i n) (i + n)

two_times : {A : Type 0} (f : ℕ → Read A) → ((i : ℕ) → Two (f i)) → (n i : ℕ) → Two (times_at f n i)
unfolding times_at
two_times f h zero i = tt
two_times f h (suc n) i = two_after (f i) _ (h i) (λ v j. two_mapped (λ vs. v ∷ vs) (times_at f n j) (two_times f h n j))

mutual
  unfolding read_at choose_at

  two_read : (l : Layout) (s : List ℕ) (i : ℕ) → Two (read_at l s i)
  two_read (number n) s i = two_number n i (field_at n s i)
  two_read integer s i = two_number 4 i (signed_of (half 4) (field_at 4 s i))
  two_read name s i = two_name s i (index_of 0 (drop i s))
  two_read value s i = two_after (count_at 4 s i) _ (two_count 4 s i) (λ n j. two_bytes n s j)
  two_read (many n a b) s i =
      two_after (count_at n s i) _ (two_count n s i) (λ k j. two_after (read_at a s j) _ (two_read a s j) (λ v p. two_mapped (λ vs. (v, vs))
      (times_at (λ q. read_at b s q) k p) (two_times (λ q. read_at b s q) (λ q. two_read b s q) k p)))
  two_read (both a b) s i = two_after (read_at a s i) _ (two_read a s i) (λ v j. two_mapped (λ w. (v, w)) (read_at b s j) (two_read b s j))
  two_read nothing s i = tt
  two_read (letter ls) s i = two_after (number_by 1 i (field_at 1 s i)) _ (two_number 1 i (field_at 1 s i)) (λ b j. two_choose ls b s j)

  two_choose : (ls : Letters) (b : ℕ) (s : List ℕ) (i : ℕ) → Two (choose_at ls b s i)
  two_choose no_other b s i = inr refl
  two_choose (or c a ls) b s i =
      by_test (eqb b c)
      (λ h. rw h (two_mapped inl (read_at a s i) (two_read a s i)))
      (λ h. rw h (two_mapped inr (choose_at ls b s i) (two_choose ls b s i)))

said_refused : {X : Type 0} (b : Bool) (q : Read (Value row_layout)) (n : ℕ) → pick b no_row (said_of row_of q) ≡ refused_by n
    → (b ≡ false → q ≡ refused n → X) → X
said_refused true q n e go = impossible cc
said_refused false (got v j) n e go = impossible cc
said_refused false (refused m) n e go = go refl cc

pub refusals_are_two : RefusalsAreTwo
unfolding row_said
refusals_are_two s n e =
    said_refused (is_boundary s) (read_at row_layout s 0) n e (λ b q. rw q at (two_read row_layout s 0))

-- ---- with more data

abbrev Grows : {A : Type 0} → Read A → Read A → Type 0
Grows (got v j) q = q ≡ got v j
Grows (refused n) q = n ≡ 27 → q ≡ refused 27

grows_same : {A : Type 0} (r : Read A) → Grows r r
grows_same (got v j) = refl
grows_same (refused n) = λ h. ap refused h

grows_after : {A B : Type 0} (r q : Read A) (f g : A → ℕ → Read B) → Grows r q → ((v : A) (j : ℕ) → Grows (f v j) (g v j))
    → Grows (after r f) (after q g)
grows_after (got v j) q f g h k = rw h (k v j)
grows_after (refused n) q f g h k = λ e. rw (h e)

grows_mapped : {A B : Type 0} (f : A → B) (r q : Read A) → Grows r q → Grows (mapped f r) (mapped f q)
grows_mapped f (got v j) q h = rw h
grows_mapped f (refused n) q h = λ e. rw (h e)

grows_number : {A : Type 0} (n i : ℕ) (o p : Option A) → ((v : A) → o ≡ some v → p ≡ some v) → Grows (number_by n i o) (number_by n i p)
grows_number n i none p h = λ e. absurd (omega (arith, e))
grows_number n i (some v) p h = rw (h v refl)

more_signed : (m : ℕ) (o p : Option ℕ) → ((v : ℕ) → o ≡ some v → p ≡ some v) → (z : ℤ) → signed_of m o ≡ some z → signed_of m p ≡ some z
more_signed m none p h z e = impossible cc
more_signed m (some v) p h z e = rw (h v refl) e

module _ (t : List ℕ) where
  -- n bytes that are there
  at_more : (s : List ℕ) (i n : ℕ) → n ≤ length s - i → at (s ++ t) i n ≡ at s i n
  at_more s i zero h = refl
  at_more s i (suc n) h =
      ap (λ (l : List ℕ). take (suc n) l) (drop-append-le i s t (omega (arith, h))) ∙ take-append-le (suc n) (drop i s) t
      (omega (arith, h, length-drop i s))

  field_more : (n : ℕ) (s : List ℕ) (i v : ℕ) → field_at n s i ≡ some v → field_at n (s ++ t) i ≡ some v
  unfolding field_at
  field_more n s i v e =
      let w = field_within n s i v e in
      let l : i + n ≤ length (s ++ t) = omega (arith, w, length-append s t) in
      let a : pick (leb (i + n) (length s)) (some (be (at s i n))) none ≡ some (be (at s i n)) = simp (le-leb _ _ w) refl in
      simp (le-leb _ _ l) (ap (λ (x : List ℕ). some (be x)) (at_more s i n (omega (arith, w))) ∙ sym a ∙ e)

  index_more : (x : List ℕ) (n : ℕ) → index_of 0 x ≡ some n → index_of 0 (x ++ t) ≡ some n
  index_more x n e =
      let f = found_at x n e in
      let w : x ++ t ≡ take n x ++ (0 ∷ (drop (n + 1) x ++ t)) = ap (λ (y : List ℕ). y ++ t) f.1 ∙ append_assoc (take n x) (0 ∷ drop (n + 1) x) t
      in
      let l : length (take n x) ≡ n = omega (arith, length-take n x, found_below 0 x n e) in
      ap (index_of 0) w ∙ zero_at (take n x) (drop (n + 1) x ++ t) f.0 ∙ ap (λ (k : ℕ). some k) l

  grows_name : (s : List ℕ) (i : ℕ) (o : Option ℕ) → index_of 0 (drop i s) ≡ o → Grows (name_by s i o) (name_by (s ++ t) i (index_of 0 (drop i (s ++ t))))
  grows_name s i none e = λ h. absurd (omega (arith, h))
  grows_name s i (some n) e =
      let b = found_below 0 (drop i s) n e in
      let d : drop i (s ++ t) ≡ drop i s ++ t = drop-append-le i s t (omega (arith, b, length-drop i s)) in
      let m : index_of 0 (drop i (s ++ t)) ≡ some n = ap (index_of 0) d ∙ index_more (drop i s) n e in
      rw (m, at_more s i n (omega (arith, b, length-drop i s)))

  grows_count : (n : ℕ) (s : List ℕ) (i : ℕ) → Grows (count_at n s i) (count_at n (s ++ t) i)
  unfolding count_at
  grows_count n s i =
      grows_after (number_by n i (field_at n s i)) (number_by n i (field_at n (s ++ t) i)) (λ v j. pick (is_negative n v) cut (got v j)) _
      (grows_number n i (field_at n s i) (field_at n (s ++ t) i) (λ v. field_more n s i v)) (λ v j. grows_same (pick (is_negative n v) cut (got v j)))

  grows_bytes : (n : ℕ) (s : List ℕ) (i : ℕ) → Grows (bytes_at n s i) (bytes_at n (s ++ t) i)
  unfolding bytes_at
  grows_bytes n s i =
      by_test (ltb (length s - i) n)
      (λ h. rw h (λ e. absurd (omega (arith, e))))
      (λ h.
      let l = ltb-false (length s - i) n h in
      let m : n ≤ length (s ++ t) - i = omega (arith, l, length-append s t) in
      rw h (simp (le-ltb _ _ m) (rw (at_more s i n l))))

  grows_times : {A : Type 0} (f g : ℕ → Read A) → ((i : ℕ) → Grows (f i) (g i)) → (n i : ℕ) → Grows (times_at f n i) (times_at g n i)
  unfolding times_at
  grows_times f g h zero i = refl
  grows_times f g h (suc n) i =
      grows_after (f i) (g i) (λ v j. mapped (λ vs. v ∷ vs) (times_at f n j)) (λ v j. mapped (λ vs. v ∷ vs) (times_at g n j)) (h i)
      (λ v j. grows_mapped (λ vs. v ∷ vs) (times_at f n j) (times_at g n j) (grows_times f g h n j))

  mutual
    unfolding read_at choose_at

    grows_read : (l : Layout) (s : List ℕ) (i : ℕ) → Grows (read_at l s i) (read_at l (s ++ t) i)
    grows_read (number n) s i = grows_number n i (field_at n s i) (field_at n (s ++ t) i) (λ v. field_more n s i v)
    grows_read integer s i =
        grows_number 4 i (signed_of (half 4) (field_at 4 s i)) (signed_of (half 4) (field_at 4 (s ++ t) i))
        (more_signed (half 4) (field_at 4 s i) (field_at 4 (s ++ t) i) (λ v. field_more 4 s i v))
    grows_read name s i = grows_name s i (index_of 0 (drop i s)) refl
    grows_read value s i =
        grows_after (count_at 4 s i) (count_at 4 (s ++ t) i) (λ n j. bytes_at n s j) (λ n j. bytes_at n (s ++ t) j) (grows_count 4 s i)
        (λ n j. grows_bytes n s j)
    grows_read (many n a b) s i =
        grows_after (count_at n s i) (count_at n (s ++ t) i)
        (λ k j. after (read_at a s j) (λ v p. mapped (λ vs. (v, vs)) (times_at (λ q. read_at b s q) k p)))
        (λ k j. after (read_at a (s ++ t) j) (λ v p. mapped (λ vs. (v, vs)) (times_at (λ q. read_at b (s ++ t) q) k p))) (grows_count n s i)
        (λ k j.
        grows_after (read_at a s j) (read_at a (s ++ t) j) (λ v p. mapped (λ vs. (v, vs)) (times_at (λ q. read_at b s q) k p))
        (λ v p. mapped (λ vs. (v, vs)) (times_at (λ q. read_at b (s ++ t) q) k p)) (grows_read a s j)
        (λ v p.
        grows_mapped (λ vs. (v, vs)) (times_at (λ q. read_at b s q) k p) (times_at (λ q. read_at b (s ++ t) q) k p)
        (grows_times (λ q. read_at b s q) (λ q. read_at b (s ++ t) q) (λ q. grows_read b s q) k p)))
    grows_read (both a b) s i =
        grows_after (read_at a s i) (read_at a (s ++ t) i) (λ v j. mapped (λ w. (v, w)) (read_at b s j))
        (λ v j. mapped (λ w. (v, w)) (read_at b (s ++ t) j))
        (grows_read a s i) (λ v j. grows_mapped (λ w. (v, w)) (read_at b s j) (read_at b (s ++ t) j) (grows_read b s j))
    grows_read nothing s i = refl
    grows_read (letter ls) s i =
        grows_after (number_by 1 i (field_at 1 s i)) (number_by 1 i (field_at 1 (s ++ t) i)) (λ b j. choose_at ls b s j) (λ b j. choose_at ls b (s ++ t) j)
        (grows_number 1 i (field_at 1 s i) (field_at 1 (s ++ t) i) (λ v. field_more 1 s i v)) (λ b j. grows_choose ls b s j)

    grows_choose : (ls : Letters) (b : ℕ) (s : List ℕ) (i : ℕ) → Grows (choose_at ls b s i) (choose_at ls b (s ++ t) i)
    grows_choose no_other b s i = λ h. refl
    grows_choose (or c a ls) b s i =
        by_test (eqb b c)
        (λ h. rw h (grows_mapped inl (read_at a s i) (read_at a (s ++ t) i) (grows_read a s i)))
        (λ h. rw h (grows_mapped inr (choose_at ls b s i) (choose_at ls b (s ++ t) i) (grows_choose ls b s i)))

  same_boundary : (s : List ℕ) → read_at row_layout s 0 ≡ refused 27 → is_boundary (s ++ t) ≡ is_boundary s
  unfolding read_at field_at
  same_boundary [] e = impossible cc
  same_boundary (b ∷ s) e = refl

pub wrong_letter_counts : WrongLetterCounts
unfolding row_said
wrong_letter_counts s t e =
    said_refused (is_boundary s) (read_at row_layout s 0) 27 e (λ b q.
    let g : read_at row_layout (s ++ t) 0 ≡ refused 27 = (rw q at (grows_read t row_layout s 0)) refl in
    rw (same_boundary t s q, b, g))
