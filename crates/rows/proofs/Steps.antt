-- How a layout is read field by field: after each field that was read the next one is, and the first bad one ends the reading.
use mathlib.Core.Path.{◌≡◌, refl, sym, ap, ◌∙◌}
use mathlib.Core.List.{List, ◌∷◌}
use mathlib.Core.Logic.{inl, inr}
use mathlib.Core.Option.{some, none}
use Prim.Native.Nat.{ℕ, suc, ◌+◌, ◌-◌, ◌<◌, ◌≤◌, min}
use native.Mathlib.Omega.{arith}
use lib.ListN.{length, drop, length-take, length-drop}
use lib.Dec.{ltb}
use lib.IntN.{ℤ}
use borrow.Author.Tests.{le-leb, lt-leb, le-ltb, lt-ltb, ltb-true, ltb-false, eq-eqb, ne_eqb}
use Rattle.wire.specs.Bytes.{at}
use Rattle.wire.specs.Field.{field_at}
use Rattle.wire.specs.Find.{index_of}
use Rattle.wire.proofs.FindLaws.{found_below}
use Rattle.wire.proofs.Laws.{by_test, impossible}
use Rattle.wire.specs.Int.{half, int_at}
use Rattle.rows.proofs.Places.{name_there, told_got}
use Rattle.rows.specs.Layout.{Layout, Letters, number, integer, name, value, many, both, nothing, letter, no_other, or, Value, Read}
use Rattle.rows.specs.Layout.{got, refused, cut, wrong, mapped, count_at, bytes_at, times_at, read_at, choose_at}

left_short : (a k : ℕ) → k < half 4 → min a 2147483647 < k → a < k
left_short a k h l = omega (arith, h, l)

least_both : (a k : ℕ) → k ≤ min a 2147483647 → (k ≤ a) × (k < half 4)
least_both a k h = (omega (arith, h), omega (arith, h))

module _ (s : List ℕ) (i : ℕ) where
  pub number_got : (n v : ℕ) → field_at n s i ≡ some v → read_at (number n) s i ≡ got v (i + n)
  unfolding read_at
  number_got n v e = rw e

  pub number_cut : (n : ℕ) → field_at n s i ≡ none → read_at (number n) s i ≡ cut
  unfolding read_at
  number_cut n e = rw e

  pub integer_got : (z : ℤ) → int_at 4 s i ≡ some z → read_at integer s i ≡ got z (i + 4)
  unfolding read_at
  integer_got z e = rw e

  pub integer_cut : int_at 4 s i ≡ none → read_at integer s i ≡ cut
  unfolding read_at
  integer_cut e = rw e

  pub both_got : (a b : Layout) (v : Value a) (j : ℕ) → read_at a s i ≡ got v j → read_at (both a b) s i ≡ mapped (λ w. (v, w)) (read_at b s j)
  unfolding read_at
  both_got a b v j e = rw e

  pub both_refused : (a b : Layout) (n : ℕ) → read_at a s i ≡ refused n → read_at (both a b) s i ≡ refused n
  unfolding read_at
  both_refused a b n e = rw e

  pub pair_got : (a b : Layout) (v : Value a) (w : Value b) (j k : ℕ) → read_at a s i ≡ got v j → read_at b s j ≡ got w k
      → read_at (both a b) s i ≡ got (v, w) k
  unfolding read_at
  pair_got a b v w j k e f = rw (e, f)

  -- ---- names

  pub name_got : (n : ℕ) → index_of 0 (drop i s) ≡ some n → mapped {B = ℕ × ℕ} (λ v. (i, length v)) (read_at name s i) ≡ got (i, n) (i + n + 1)
  unfolding read_at
  name_got n e = rw e (rw (name_there s i n e).0)

  pub name_cut : index_of 0 (drop i s) ≡ none → mapped {B = ℕ × ℕ} (λ v. (i, length v)) (read_at name s i) ≡ cut
  unfolding read_at
  name_cut e = rw e

  pub name_within : (n : ℕ) → index_of 0 (drop i s) ≡ some n → i + n + 1 ≤ length s
  name_within n e = omega (arith, found_below 0 (drop i s) n e, length-drop i s)

  -- ---- counts

  pub count_got : (n k : ℕ) → field_at n s i ≡ some k → k < half n → count_at n s i ≡ got k (i + n)
  unfolding count_at
  count_got n k e h = rw e (simp (lt-leb _ _ h))

  pub count_cut : (n : ℕ) → field_at n s i ≡ none → count_at n s i ≡ cut
  unfolding count_at
  count_cut n e = rw e

  pub count_negative : (n k : ℕ) → field_at n s i ≡ some k → half n ≤ k → count_at n s i ≡ cut
  unfolding count_at
  count_negative n k e h = rw e (simp (le-leb _ _ h))

  -- ---- values

  abbrev Valued : Read (ℕ × ℕ) → Type 0
  Valued r = mapped {B = ℕ × ℕ} (λ v. (i + 4, length v)) (read_at value s i) ≡ r

  pub value_cut : field_at 4 s i ≡ none → Valued cut
  unfolding read_at
  value_cut e = rw (count_cut 4 e)

  pub value_negative : (k : ℕ) → field_at 4 s i ≡ some k → half 4 ≤ k → Valued cut
  unfolding read_at
  value_negative k e h = rw (count_negative 4 k e h)

  pub value_short : (k : ℕ) → field_at 4 s i ≡ some k → k < half 4 → length s - (i + 4) < k → Valued cut
  unfolding read_at bytes_at
  value_short k e h l = rw (count_got 4 k e h) (simp (lt-ltb _ _ l))

  pub value_whole : (k : ℕ) → field_at 4 s i ≡ some k → k < half 4 → k ≤ length s - (i + 4) → Valued (got (i + 4, k) (i + 4 + k))
  unfolding read_at bytes_at
  value_whole k e h l =
      let n : length (at s (i + 4) k) ≡ k = simp (length-take, length-drop) (omega arith) in
      rw (count_got 4 k e h) (simp (le-ltb _ _ l) (rw n))

  -- the same by one comparison, with the smaller of what is left and the longest length
  pub value_over : (k m : ℕ) → field_at 4 s i ≡ some k → m ≡ min (length s - (i + 4)) 2147483647 → m < k → Valued cut
  value_over k m e q h =
      by_test (ltb k (half 4))
      (λ t. value_short k e (ltb-true k (half 4) t) (left_short (length s - (i + 4)) k (ltb-true k (half 4) t) (rw (← q) h)))
      (λ t. value_negative k e (ltb-false k (half 4) t))

  pub value_fits : (k m : ℕ) → field_at 4 s i ≡ some k → m ≡ min (length s - (i + 4)) 2147483647 → k ≤ m → Valued (got (i + 4, k) (i + 4 + k))
  value_fits k m e q h =
      let b = least_both (length s - (i + 4)) k (rw (← q) h) in
      value_whole k e b.1 b.0

  pub many_none : (n : ℕ) (a b : Layout) (m : ℕ) → count_at n s i ≡ refused m → read_at (many n a b) s i ≡ refused m
  unfolding read_at
  many_none n a b m e = rw e

  pub many_got : (n : ℕ) (a b : Layout) (k j : ℕ) (v : Value a) (p : ℕ) → count_at n s i ≡ got k j → read_at a s j ≡ got v p
      → read_at (many n a b) s i ≡ mapped (λ vs. (v, vs)) (times_at (λ q. read_at b s q) k p)
  unfolding read_at
  many_got n a b k j v p e f = rw (e, f)

  pub many_refused : (n : ℕ) (a b : Layout) (k j m : ℕ) → count_at n s i ≡ got k j → read_at a s j ≡ refused m → read_at (many n a b) s i ≡ refused m
  unfolding read_at
  many_refused n a b k j m e f = rw (e, f)

  pub nothing_got : read_at nothing s i ≡ got tt i
  unfolding read_at
  nothing_got = refl

  -- ---- letters

  pub letter_got : (ls : Letters) (b : ℕ) → field_at 1 s i ≡ some b → read_at (letter ls) s i ≡ choose_at ls b s (i + 1)
  unfolding read_at
  letter_got ls b e = rw e

  pub letter_cut : (ls : Letters) → field_at 1 s i ≡ none → read_at (letter ls) s i ≡ cut
  unfolding read_at
  letter_cut ls e = rw e

  pub choose_here : (c : ℕ) (a : Layout) (ls : Letters) (b : ℕ) → b ≡ c → choose_at (or c a ls) b s i ≡ mapped inl (read_at a s i)
  unfolding read_at
  choose_here c a ls b e = simp (eq-eqb b c e)

  pub choose_next : (c : ℕ) (a : Layout) (ls : Letters) (b : ℕ) → (b ≡ c → ⊥) → choose_at (or c a ls) b s i ≡ mapped inr (choose_at ls b s i)
  unfolding read_at
  choose_next c a ls b e = simp (ne_eqb b c e)

  pub choose_none : (b : ℕ) → choose_at no_other b s i ≡ wrong
  unfolding read_at
  choose_none b = refl

-- what is told twice is told once
pub told_told : {A B C : Type 0} (f : B → C) (g : A → B) (r : Read A) → mapped f (mapped g r) ≡ mapped (λ v. f (g v)) r
told_told f g (got v j) = refl
told_told f g (refused n) = refl

-- a refusal that is told was read
pub refused_back : {A B : Type 0} (f : A → B) (r : Read A) (n : ℕ) → refused n ≡ mapped f r → r ≡ refused n
refused_back f (got v j) n e = impossible cc
refused_back f (refused m) n e = let h : m ≡ n = cc in ap refused h

-- a value that is told was read
pub got_back : {A B : Type 0} (f : A → B) (r : Read A) (w : B) (j : ℕ) → got w j ≡ mapped f r → (v : A) × (r ≡ got v j) × (w ≡ f v)
got_back f r w j e = told_got f r w j (sym e)

-- the place alone
abbrev pub ended : {A : Type 0} → Read A → Read Unit
ended r = mapped (λ v. tt) r

pub ended_told : {A B C : Type 0} (f : B → C) (g : A → B) (r : Read A) (x : Read C) (e : Read Unit) → x ≡ mapped f (mapped g r) → e ≡ ended x
    → e ≡ ended r
ended_told f g (got v j) x e p q = q ∙ rw p
ended_told f g (refused n) x e p q = q ∙ rw p

-- ---- a walk over n, of which k are passed

module _ {A : Type 0} (f : ℕ → Read A) where
  one_more : (n i : ℕ) (r : Read A) (j : ℕ) → f i ≡ r → ended r ≡ got tt j → ended (times_at f (suc n) i) ≡ ended (times_at f n j)
  unfolding times_at
  one_more n i (got v k) j e h =
      let w : k ≡ j = cc in
      rw (e, w) (told_told (λ vs. tt) (λ vs. v ∷ vs) (times_at f n j))
  one_more n i (refused m) j e h = impossible cc

  stopped : (n i : ℕ) (r : Read A) (m : ℕ) → f i ≡ r → ended r ≡ refused m → ended (times_at f (suc n) i) ≡ refused m
  unfolding times_at
  stopped n i (got v k) m e h = impossible cc
  stopped n i (refused p) m e h = rw e h

  left : (n k : ℕ) → k < n → n - k ≡ suc (n - (k + 1))
  left n k h = omega arith

  pub walk_next : (n k i j : ℕ) → k < n → got tt j ≡ ended (f i) → ended (times_at f (n - k) i) ≡ ended (times_at f (n - (k + 1)) j)
  walk_next n k i j h e = rw (left n k h) (one_more (n - (k + 1)) i (f i) j refl (sym e))

  pub walk_stop : (n k i m : ℕ) → k < n → refused m ≡ ended (f i) → ended (times_at f (n - k) i) ≡ refused m
  walk_stop n k i m h e = rw (left n k h) (stopped (n - (k + 1)) i (f i) m refl (sym e))

  pub walk_end : (n k i : ℕ) → n ≤ k → ended (times_at f (n - k) i) ≡ got tt i
  unfolding times_at
  walk_end n k i h = let z : n - k ≡ 0 = omega arith in rw z
