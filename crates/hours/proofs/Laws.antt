-- Windows, boundaries, and the search for the first change.
use mathlib.Core.Path.{◌≡◌, refl, sym, ◌∙◌}
use mathlib.Core.Bool.{Bool, true, false, not, beq}
use mathlib.Core.List.{List}
use mathlib.Core.Option.{some, none}
use Prim.Native.Nat.{ℕ, zero, suc, ◌+◌, ◌-◌, ◌/◌, ◌%◌, ◌≤◌, ◌<◌}
use native.Mathlib.Numerals.{add-one}
use native.Mathlib.Omega.{arith}
use lib.ListN.{get_or}
use lib.Dec.{ltb, leb, eqb}
use borrow.Author.Tests.{lt-ltb, le-ltb, le-leb, lt-leb, ltb-true, ltb-false, leb-true, eqb-true, eqb-false}
use Rattle.wire.proofs.Laws.{by_test, impossible}
use Rattle.hours.specs.declared.Hours.{Hours}
use Rattle.hours.specs.Calendar.{in_window, open_at, is_window, are_windows}
use Rattle.hours.specs.Answer.{change_from}
use Rattle.hours.specs.Code.{differs, boundary_after, until_boundary}

-- ---- windows

pub window_late : (o c : ℕ) → c < o → is_window o c ≡ false
window_late o c h = simp (lt-leb o c h)

pub window_long : (o c : ℕ) → 1440 < c → is_window o c ≡ false
window_long o c h = by_test (leb o c) (λ t. simp (t, lt-leb c 1440 h)) (λ t. simp t)

pub window_right : (o c : ℕ) → o ≤ c → c ≤ 1440 → is_window o c ≡ true
window_right o c h k = simp (le-leb o c h, le-leb c 1440 k)

pub window_is : (o c : ℕ) → is_window o c ≡ true → (o ≤ c) × (c ≤ 1440)
window_is o c e =
    by_test (leb o c)
    (λ t. (leb-true o c t, leb-true c 1440 (simp t at e)))
    (λ t. impossible (cc (simp t at e)))

module _ (os cs : List ℕ) where
  pub windows_next : (d : ℕ) → are_windows os cs d ≡ true → is_window (get_or os d 0) (get_or cs d 0) ≡ true → are_windows os cs (d + 1) ≡ true
  unfolding are_windows
  windows_next d e w = rw (add-one, w, e)

  -- a window that is not right makes them all not right
  pub windows_wrong : (n d : ℕ) → d < n → is_window (get_or os d 0) (get_or cs d 0) ≡ false → are_windows os cs n ≡ false
  unfolding are_windows
  windows_wrong zero d h w = absurd (omega arith)
  windows_wrong (suc n) d h w =
      by_test (eqb d n)
      (λ t. let e : d ≡ n = eqb-true d n t in rw (← e, w))
      (λ t.
      let l : d < n = omega (arith, eqb-false d n t) in
      by_test (is_window (get_or os n 0) (get_or cs n 0)) (λ q. rw q (windows_wrong n d l w)) (λ q. rw q))

  pub windows_at : (n d : ℕ) → are_windows os cs n ≡ true → d < n → (get_or os d 0 ≤ get_or cs d 0) × (get_or cs d 0 ≤ 1440)
  windows_at n d e h =
      by_test (is_window (get_or os d 0) (get_or cs d 0))
      (λ t. window_is (get_or os d 0) (get_or cs d 0) t)
      (λ t. impossible (cc (e, windows_wrong n d h t)))

-- ---- from one boundary to the next

-- a day's state lasts to its next boundary
lasts_in_day : (o c x k : ℕ) → o ≤ c → c ≤ 1440 → x < 1440 → k < boundary_after o c x → (in_window o c (x + k) ≡ in_window o c x) × (x + k < 1440)
lasts_in_day o c x k oc cm xm h =
    by_test (ltb x o)
    (λ t.
    let l : x < o = ltb-true x o t in
    let b : k < o - x = simp t at h in
    (simp (lt-leb o (x + k) (omega arith), lt-leb o x l), omega arith))
    (λ t.
    let l : o ≤ x = ltb-false x o t in
    by_test (ltb x c)
    (λ q.
    let m : x < c = ltb-true x c q in
    let b : k < c - x = simp (t, q) at h in
    (simp (le-leb o (x + k) (omega arith), le-leb o x l, lt-ltb (x + k) c (omega arith), q), omega arith))
    (λ q.
    let m : c ≤ x = ltb-false x c q in
    let b : k < 1440 - x = simp (t, q) at h in
    (simp (le-leb o (x + k) (omega arith), le-leb o x l, le-ltb (x + k) c (omega arith), q), omega arith)))

boundary_far : (o c x : ℕ) → o ≤ c → c ≤ 1440 → x < 1440 → (0 < boundary_after o c x) × (boundary_after o c x ≤ 1440)
boundary_far o c x oc cm xm =
    by_test (ltb x o)
    (λ t. let l : x < o = ltb-true x o t in simp t (omega arith, omega arith))
    (λ t.
    by_test (ltb x c)
    (λ q. let l : x < c = ltb-true x c q in simp (t, q) (omega arith, omega arith))
    (λ q. simp (t, q) (omega arith, omega arith)))

module _ (h : Hours) (right : are_windows h.opens h.closes 7 ≡ true) (w : ℕ) (in_week : w < 10080) where
  pub until_far : (0 < until_boundary h w) × (until_boundary h w ≤ 1440)
  unfolding until_boundary
  until_far =
      let r = windows_at h.opens h.closes 7 (w / 1440) right (omega arith) in
      boundary_far _ _ (w % 1440) r.0 r.1 (omega arith)

  pub lasts : (k : ℕ) → k < until_boundary h w → (open_at h (w + k) ≡ open_at h w) × (w + k < 10080)
  unfolding until_boundary open_at
  lasts k b =
      let r = windows_at h.opens h.closes 7 (w / 1440) right (omega arith) in
      let l = lasts_in_day (get_or h.opens (w / 1440) 0) (get_or h.closes (w / 1440) 0) (w % 1440) k r.0 r.1 (omega arith) b in
      let n : w % 1440 + k < 1440 = l.1 in
      let d : (w + k) / 1440 ≡ w / 1440 = omega arith in
      let m : (w + k) % 1440 ≡ w % 1440 + k = omega arith in
      (rw (d, m) l.0, omega arith)

-- ---- the search

-- the state so many minutes after minute m is that of minute m
abbrev pub Same : Hours → ℕ → ℕ → Type 0
Same h m i = open_at h ((m + i) % 10080) ≡ open_at h m

pub not_differs : (a b : Bool) → a ≡ b → differs a b ≡ false
not_differs true true e = refl
not_differs true false e = impossible (cc)
not_differs false true e = impossible (cc)
not_differs false false e = refl

-- the code's own comparison
pub are_different : (a b : Bool) → not (beq a b) ≡ true → differs a b ≡ true
are_different true true e = impossible (cc)
are_different true false e = refl
are_different false true e = refl
are_different false false e = impossible (cc)

pub are_alike : (a b : Bool) → not (beq a b) ≡ false → a ≡ b
are_alike true true e = refl
are_alike true false e = impossible (cc)
are_alike false true e = impossible (cc)
are_alike false false e = refl

pub not_different : (a b : Bool) → differs a b ≡ false → a ≡ b
not_different true true e = refl
not_different true false e = impossible (cc)
not_different false true e = impossible (cc)
not_different false false e = refl

pub different : (a b : Bool) → differs a b ≡ true → a ≡ not b
different true true e = impossible (cc)
different true false e = refl
different false true e = refl
different false false e = impossible (cc)

pub same_start : (h : Hours) (m : ℕ) → m < 10080 → (i : ℕ) → i ≤ 0 → Same h m i
same_start h m l i z =
    let e : (m + i) % 10080 ≡ m = omega arith in
    rw e

-- a walk goes on to the next boundary
pub same_step : (h : Hours) → are_windows h.opens h.closes 7 ≡ true → (m walked : ℕ) → ((i : ℕ) → i ≤ walked → Same h m i)
    → (k : ℕ) → k < walked + until_boundary h ((m + walked) % 10080) → Same h m k
same_step h right m walked s k b =
    by_test (ltb walked k)
    (λ t.
    let l : walked < k = ltb-true walked k t in
    let f = lasts h right ((m + walked) % 10080) (omega arith) (k - walked) (omega arith) in
    let e : (m + k) % 10080 ≡ (m + walked) % 10080 + (k - walked) = omega (arith, f.1) in
    rw e (f.0 ∙ s walked (omega arith)))
    (λ t. s k (ltb-false walked k t))

module _ (h : Hours) (m : ℕ) where
  abbrev other : ℕ → Bool
  other i = differs (open_at h ((m + i) % 10080)) (open_at h m)

  -- a week without a change is followed by weeks without one
  pub same_always : ((i : ℕ) → i < 10080 → Same h m i) → (i : ℕ) → Same h m i
  same_always s i =
      let e : (m + i) % 10080 ≡ (m + i % 10080) % 10080 = omega arith in
      rw e (s (i % 10080) (omega arith))

  found_from : (n i j : ℕ) → i ≤ j → j < i + n → ((k : ℕ) → i ≤ k → k < j → Same h m k) → other j ≡ true → change_from h m n i ≡ some j
  unfolding change_from
  found_from zero i j a b s d = absurd (omega arith)
  found_from (suc n) i j a b s d =
      by_test (ltb i j)
      (λ t.
      let l : i < j = ltb-true i j t in
      rw (not_differs _ _ (s i (omega arith) l)) (found_from n (suc i) j (omega arith) (omega arith) (λ k p q. s k (omega arith) q) d))
      (λ t. let e : i ≡ j = omega (arith, ltb-false i j t) in rw (e, d))

  none_from : (n i : ℕ) → ((k : ℕ) → i ≤ k → k < i + n → Same h m k) → change_from h m n i ≡ none
  unfolding change_from
  none_from zero i s = refl
  none_from (suc n) i s = rw (not_differs _ _ (s i (omega arith) (omega arith))) (none_from n (suc i) (λ k p q. s k (omega arith) (omega arith)))

  -- what the walk finds is what the search finds
  pub found : (j : ℕ) → 0 < j → ((k : ℕ) → k < j → Same h m k) → other j ≡ true → some j ≡ change_from h m 10080 1
  found j p s d =
      let l : j ≤ 10080 = by_test (ltb 10080 j)
      (λ t.
      let g : 10080 < j = ltb-true 10080 j t in
      let e = same_always (λ i q. s i (omega arith)) j in
      impossible (cc (d, not_differs _ _ e)))
      (λ t. ltb-false 10080 j t) in
      sym (found_from 10080 1 j (omega arith) (omega arith) (λ k a b. s k b) d)

  pub found_none : ((k : ℕ) → k ≤ 10080 → Same h m k) → none ≡ change_from h m 10080 1
  found_none s = sym (none_from 10080 1 (λ k a b. s k (omega arith)))

  -- what the search says
  pub record Found (i j : ℕ) : Type 0 where
    pub not_before : i ≤ j
    pub differs_there : other j ≡ true
    pub same_till : (k : ℕ) → i ≤ k → k < j → Same h m k

  pub found_is : (n i j : ℕ) → change_from h m n i ≡ some j → Found i j
  unfolding change_from
  found_is zero i j e = impossible (cc)
  found_is (suc n) i j e =
      by_test (other i)
      (λ t.
      let f : i ≡ j = cc (simp t at e) in
      record { not_before = omega arith; differs_there = rw (← f) t; same_till = λ k a b. absurd (omega arith) })
      (λ t.
      let r = found_is n (suc i) j (simp t at e) in
      record {
        not_before = omega (arith, r.not_before);
        differs_there = r.differs_there;
        same_till = λ k a b. by_test (ltb i k)
            (λ q. r.same_till k (ltb-true i k q) b)
            (λ q. let f : k ≡ i = omega (arith, ltb-false i k q) in rw f (not_different _ _ t));
      })

  pub none_is : (n i : ℕ) → change_from h m n i ≡ none → (k : ℕ) → i ≤ k → k < i + n → Same h m k
  unfolding change_from
  none_is zero i e k a b = absurd (omega arith)
  none_is (suc n) i e k a b =
      by_test (other i)
      (λ t. impossible (cc (simp t at e)))
      (λ t.
      by_test (ltb i k)
      (λ q. none_is n (suc i) (simp t at e) k (ltb-true i k q) (omega arith))
      (λ q. let f : k ≡ i = omega (arith, ltb-false i k q) in rw f (not_different _ _ t)))
