-- Lists that stand in the data from one place to another, and the fields that are read there.
use mathlib.Core.Path.{◌≡◌, refl, sym, ap, ◌∙◌}
use mathlib.Core.Bool.{Bool, true, false}
use mathlib.Core.List.{List, [], ◌∷◌, ◌++◌, append_assoc}
use mathlib.Core.Option.{Option, some, none}
use Prim.Native.Nat.{ℕ, zero, suc, ◌+◌, ◌-◌, ◌<◌, ◌≤◌, ◌^◌}
use native.Mathlib.Omega.{arith}
use lib.ListN.{length, drop, length-append, length-drop, length-take, take-append-drop}
use lib.Seq.{drop-drop, take-append_seam, drop-append_seam}
use lib.Dec.{ltb}
use lib.IntN.{ℤ}
use lib.Signed.{mag}
use lib.Pow.{are_bytes}
use borrow.Author.Tests.{lt-leb, le-ltb, leb-false, ltb-false}
use Rattle.wire.specs.Bytes.{pick, at, be_bytes}
use Rattle.wire.specs.Field.{field_at}
use Rattle.wire.specs.Int.{half, is_negative, int_at, int_bytes, value as int_value}
use Rattle.wire.specs.Find.{index_of, NoZero}
use Rattle.wire.proofs.Laws.{length_be_bytes, impossible}
use Rattle.wire.proofs.FieldLaws.{field_read, field_there, int_read, int_there, halves}
use Rattle.wire.proofs.FindLaws.{zero_at, found_at, found_below}
use Rattle.rows.specs.Layout.{Read, got, refused, cut, after, mapped, number_by, name_by, count_at, bytes_at, times_at, all_bytes, All, Stands}

-- ---- what a reading that went on says of each of its fields

pub after_got : {A B : Type 0} (r : Read A) (go : A → ℕ → Read B) (w : B) (k : ℕ) → after r go ≡ got w k
    → (v : A) × (j : ℕ) × (r ≡ got v j) × (go v j ≡ got w k)
after_got (got v j) go w k e = (v, j, refl, e)
after_got (refused n) go w k e = impossible cc

-- what follows from both readings
pub by_after : {A B X : Type 0} (r : Read A) (go : A → ℕ → Read B) (w : B) (k : ℕ) → after r go ≡ got w k
    → ((v : A) (j : ℕ) → r ≡ got v j → go v j ≡ got w k → X) → X
by_after r go w k e f = let a = after_got r go w k e in f a.0 a.1 a.2 a.3

-- a value that is told was read
pub told_got : {A B : Type 0} (f : A → B) (r : Read A) (w : B) (k : ℕ) → mapped f r ≡ got w k → (v : A) × (r ≡ got v k) × (w ≡ f v)
told_got f (got v j) w k e =
    let ej : j ≡ k = cc in
    (v, ap (λ (x : ℕ). got v x) ej, (cc))
told_got f (refused n) w k e = impossible cc

pub by_told : {A B X : Type 0} (f : A → B) (r : Read A) (w : B) (k : ℕ) → mapped f r ≡ got w k → ((v : A) → r ≡ got v k → w ≡ f v → X) → X
by_told f r w k e g = let a = told_got f r w k e in g a.0 a.1 a.2

pub number_some : {A : Type 0} (n i : ℕ) (o : Option A) (v : A) (j : ℕ) → number_by n i o ≡ got v j → (o ≡ some v) × (j ≡ i + n)
number_some n i none v j e = impossible cc
number_some n i (some w) v j e = ((cc), (cc))

pub pick_got : {A : Type 0} (b : Bool) (x : Read A) (v : A) (j : ℕ) → pick b cut x ≡ got v j → (b ≡ false) × (x ≡ got v j)
pick_got true x v j e = impossible cc
pick_got false x v j e = (refl, e)

-- ---- one list after another

module _ (s : List ℕ) where
  pub split : (i : ℕ) (x y : List ℕ) (k : ℕ) → Stands s i (x ++ y) k → Stands s i x (i + length x) × Stands s (i + length x) y k
  split i x y k h =
      let d : drop (i + length x) s ≡ y ++ drop k s = sym (drop-drop (length x) i s) ∙ rw (h.whole, append_assoc)
      (drop-append_seam x (y ++ drop k s)) in (
        record { whole = h.whole ∙ (append_assoc x y (drop k s) ∙ ap (λ (l : List ℕ). x ++ l) (sym d)); ends = refl },
        record { whole = d; ends = omega (arith, h.ends, length-append x y) },
      )

  pub join : (i : ℕ) (x : List ℕ) (j : ℕ) (y : List ℕ) (k : ℕ) → Stands s i x j → Stands s j y k → Stands s i (x ++ y) k
  join i x j y k a b =
      record {
        whole = a.whole ∙ (ap (λ (l : List ℕ). x ++ l) b.whole ∙ sym (append_assoc x y (drop k s)));
        ends = omega (arith, a.ends, b.ends, length-append x y);
      }

  pub none_stands : (i : ℕ) → Stands s i [] i
  none_stands i = record { whole = refl; ends = omega arith }

  -- ---- numbers

  pub number_read : (n i v j : ℕ) → 0 < n → v < 256 ^ n → Stands s i (be_bytes n v) j → (field_at n s i ≡ some v) × (i + n ≡ j)
  number_read n i v j z f h = ((field_read n s i v (drop j s) z f h.whole).0, omega (arith, h.ends, length_be_bytes n v))

  pub number_there : (n i v : ℕ) → are_bytes s ≡ true → field_at n s i ≡ some v → (v < 256 ^ n) × Stands s i (be_bytes n v) (i + n)
  number_there n i v b e =
      let w = field_there n s i v b e in
      (w.1, record { whole = w.2; ends = omega (arith, length_be_bytes n v) })

  pub integer_read : (i : ℕ) (z : ℤ) (j : ℕ) → mag z < half 4 → Stands s i (int_bytes 4 z) j → (int_at 4 s i ≡ some z) × (i + 4 ≡ j)
  integer_read i z j f h = ((int_read 4 s i (omega arith) z (drop j s) f h.whole).0, omega (arith, h.ends, length_be_bytes 4 (int_value 4 z)))

  pub integer_there : (i : ℕ) (z : ℤ) → are_bytes s ≡ true → int_at 4 s i ≡ some z → (mag z < half 4) × Stands s i (int_bytes 4 z) (i + 4)
  integer_there i z b e =
      let w = int_there 4 s i (omega arith) z b e in
      (w.1, record { whole = w.2; ends = omega (arith, length_be_bytes 4 (int_value 4 z)) })

  -- ---- counts and lengths

  pub count_read : (n i k j : ℕ) → 0 < n → k < half n → Stands s i (be_bytes n k) j → count_at n s i ≡ got k j
  unfolding count_at
  count_read n i k j z f h =
      let w = number_read n i k j z (omega (arith, halves n z)) h in
      rw w.0 (simp (lt-leb _ _ f, w.1))

  pub count_there : (n i k j : ℕ) → are_bytes s ≡ true → count_at n s i ≡ got k j → (k < half n) × Stands s i (be_bytes n k) j
  unfolding count_at
  count_there n i k j b e =
      let w = after_got (number_by n i (field_at n s i)) _ k j e in
      let p = number_some n i (field_at n s i) w.0 w.1 w.2 in
      let q = pick_got (is_negative n w.0) (got w.0 w.1) k j w.3 in
      let ev : w.0 ≡ k = cc in
      let ej : i + n ≡ j = cc in
      (rw ev at (leb-false (half n) w.0 q.0), rw (ev, ej) at (number_there n i w.0 b p.0).1)

  -- ---- bytes

  pub bytes_read : (i : ℕ) (v : List ℕ) (j : ℕ) → Stands s i v j → bytes_at (length v) s i ≡ got v j
  unfolding bytes_at
  bytes_read i v j h =
      let l : length s - i ≡ length v + length (drop j s) = sym (length-drop i s) ∙ (ap length h.whole ∙ length-append v (drop j s)) in
      let g : length v ≤ length s - i = omega arith in
      let t : at s i (length v) ≡ v = rw h.whole (take-append_seam v (drop j s)) in
      simp (le-ltb _ _ g) (rw (t, h.ends))

  pub bytes_there : (n i : ℕ) (v : List ℕ) (j : ℕ) → bytes_at n s i ≡ got v j → (length v ≡ n) × (v ≡ at s i n) × Stands s i v j
  unfolding bytes_at
  bytes_there n i v j e =
      let q = pick_got (ltb (length s - i) n) (got (at s i n) (i + n)) v j e in
      let h : n ≤ length s - i = ltb-false _ _ q.0 in
      let ev : v ≡ at s i n = cc in
      let ej : j ≡ i + n = cc in
      let l : length (at s i n) ≡ n = simp (length-take, length-drop) (omega arith) in
      let d : drop i s ≡ at s i n ++ drop (i + n) s = rw (← drop-drop n i s) (sym (take-append-drop n (drop i s))) in
      rw (ev, ej) (l, refl, record { whole = d; ends = omega (arith, l) })

  -- ---- names

  pub name_read : (i : ℕ) (v : List ℕ) (j : ℕ) → NoZero v → Stands s i (v ++ (0 ∷ [])) j → name_by s i (index_of 0 (drop i s)) ≡ got v j
  name_read i v j z h =
      let e : drop i s ≡ v ++ (0 ∷ drop j s) = h.whole ∙ append_assoc v (0 ∷ []) (drop j s) in
      let f : index_of 0 (drop i s) ≡ some (length v) = rw e (zero_at v (drop j s) z) in
      let t : at s i (length v) ≡ v = rw e (take-append_seam v (0 ∷ drop j s)) in
      let p : i + length v + 1 ≡ j = omega (arith, h.ends, length-append v (0 ∷ [])) in
      rw f (rw (t, p))

  pub name_there : (i n : ℕ) → index_of 0 (drop i s) ≡ some n
      → (length (at s i n) ≡ n) × NoZero (at s i n) × Stands s i (at s i n ++ (0 ∷ [])) (i + n + 1)
  name_there i n e =
      let w = found_at (drop i s) n e in
      let b : n < length (drop i s) = found_below 0 (drop i s) n e in
      let l : length (at s i n) ≡ n = simp length-take (omega arith) in
      let p : i + (n + 1) ≡ i + n + 1 = omega arith in
      let d : drop i s ≡ (at s i n ++ (0 ∷ [])) ++ drop (i + n + 1) s = rw (append_assoc, ← p, ← drop-drop (n + 1) i s) w.1 in
      (l, w.0, record { whole = d; ends = omega (arith, l, length-append (at s i n) (0 ∷ [])) })

  pub name_back : (i : ℕ) (o : Option ℕ) (v : List ℕ) (j : ℕ) → index_of 0 (drop i s) ≡ o → name_by s i o ≡ got v j
      → NoZero v × Stands s i (v ++ (0 ∷ [])) j
  name_back i none v j d e = impossible cc
  name_back i (some n) v j d e =
      let w = name_there i n d in
      let ev : v ≡ at s i n = cc in
      let ej : j ≡ i + n + 1 = cc in
      rw (ev, ej) (w.1, w.2)

  -- ---- so many times the same

  module _ {A : Type 0} (f : ℕ → Read A) (g : A → List ℕ) (P : A → Type 0) where
    pub times_read : ((v : A) (i j : ℕ) → P v → Stands s i (g v) j → f i ≡ got v j) → (vs : List A) (i j : ℕ) → All P vs
        → Stands s i (all_bytes g vs) j
        → times_at f (length vs) i ≡ got vs j
    unfolding times_at all_bytes
    times_read one [] i j a h = ap (λ (k : ℕ). got [] k) (omega (arith, h.ends))
    times_read one (v ∷ vs) i j a h =
        let w = split i (g v) (all_bytes g vs) j h in
        rw (one v i (i + length (g v)) a.0 w.0, times_read one vs (i + length (g v)) j a.1 w.1)

    pub times_there : ((i : ℕ) (v : A) (j : ℕ) → f i ≡ got v j → P v × Stands s i (g v) j) → (n i : ℕ) (vs : List A) (j : ℕ)
        → times_at f n i ≡ got vs j
        → (length vs ≡ n) × All P vs × Stands s i (all_bytes g vs) j
    unfolding times_at all_bytes
    times_there one zero i vs j e =
        let ev : vs ≡ [] = cc in
        let ej : j ≡ i = cc in
        rw (ev, ej) (refl, tt, none_stands i)
    times_there one (suc n) i vs j e =
        by_after (f i) (λ v k. mapped (λ ws. v ∷ ws) (times_at f n k)) vs j e (λ v k p q.
        by_told (λ ws. v ∷ ws) (times_at f n k) vs j q (λ ws r ev.
        let o = one i v k p in
        let t = times_there one n k ws j r in
        rw ev (ap suc t.0, (o.0, t.1), join i (g v) k (all_bytes g ws) j o.1 t.2)))
