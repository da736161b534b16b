-- Moments and offsets as numbers that are not negative: sums, remainders and the order.
use mathlib.Core.Path.{◌≡◌, refl, ap}
use mathlib.Core.Bool.{true}
use Prim.Native.Nat.{ℕ, zero, suc, ◌+◌, ◌*◌, ◌-◌, ◌%◌, ◌^◌, ◌≤◌, ◌<◌}
use native.Mathlib.Omega.{arith}
use lib.IntN.{ℤ, pos, negsuc, ◌+ℤ◌, ◌*ℤ◌, +ℤ_assoc}
use lib.Signed.{mag, lt_z}
use lib.Dec.{T, ltb, leb, ltb→lt, lt→ltb}
use borrow.Author.Tests.{lt-ltb, le-ltb, ltb-true, ltb-false, leb-true}
use Rattle.wire.proofs.Laws.{by_test, impossible}
use Rattle.hours.specs.Calendar.{minute, week, floor_mod, since_monday, is_within_windows}
use Rattle.hours.specs.Code.{counted}

-- ---- limits

pub within_pos : (l n : ℕ) → is_within_windows (suc l) (pos n) ≡ true → n ≤ suc l
within_pos l n e = leb-true n (suc l) e

pub within_neg : (l k : ℕ) → is_within_windows (suc l) (negsuc k) ≡ true → k ≤ l
within_neg l k e = by_test (ltb l k) (λ t. impossible (cc (simp t at e))) (λ t. ltb-false l k t)

-- by the sign
pub within_from_zero : (l n : ℕ) → is_within_windows l (pos n) ≡ leb n l
within_from_zero zero n = simp (le-ltb n 0 (omega arith))
within_from_zero (suc l) n = refl

pub within_below_zero : (l k : ℕ) → is_within_windows l (negsuc k) ≡ ltb k l
within_below_zero zero k = simp (le-ltb k 0 (omega arith))
within_below_zero (suc l) k =
    by_test (ltb l k)
    (λ t. let h : suc l ≤ k = ltb-true l k t in simp (t, le-ltb k (suc l) h))
    (λ t. let h : k ≤ l = ltb-false l k t in simp (t, lt-ltb k (suc l) (omega arith)))

-- ---- the offset

-- minutes from Monday to Saturday on the venue's clock
pub record Ahead (z : ℤ) : Type 0 where
  pub n : ℕ
  pub same : z +ℤ pos 7200 ≡ pos n
  pub most : n ≤ 8040

pub ahead : (z : ℤ) → is_within_windows 840 z ≡ true → Ahead z
ahead (pos a) e = let l = within_pos 839 a e in record { n = a + 7200; same = refl; most = omega arith }
ahead (negsuc k) e =
    let l = within_neg 839 k e in
    let f : suc k ≤ 7200 = omega arith in
    record { n = 7200 - suc k; same = simp (le-ltb _ _ f); most = omega arith }

-- ---- moments counted from long ago

pub floor_counted : (t : ℤ) (a : ℕ) → is_within_windows 4611686018427387904 t ≡ true → floor_mod (t +ℤ pos a) week ≡ (counted t + a) % week
floor_counted (pos n) a e = omega arith
floor_counted (negsuc k) a e =
    let l = within_neg 4611686018427387903 k e in
    by_test (ltb a (suc k))
    (λ t. let g : a < suc k = ltb-true a (suc k) t in simp t (omega arith))
    (λ t. let g : suc k ≤ a = ltb-false a (suc k) t in simp t (omega arith))

floor_below : (z : ℤ) → floor_mod z week < week
floor_below (pos n) = omega arith
floor_below (negsuc k) = omega arith

pub since_below : (offset t : ℤ) → since_monday offset t < week
unfolding since_monday
since_below offset t = floor_below (t +ℤ (offset +ℤ pos 7200) *ℤ pos minute)

pub counted_most : (t : ℤ) → is_within_windows 4611686018427387904 t ≡ true → counted t ≤ 9450086018427387904
counted_most (pos n) e = let l = within_pos 4611686018427387903 n e in omega arith
counted_most (negsuc k) e = omega arith

-- the microsecond of the week, by the count
pub since_now : (offset t : ℤ) (n : ℕ) → offset +ℤ pos 7200 ≡ pos n → is_within_windows 4611686018427387904 t ≡ true
    → since_monday offset t ≡ (counted t + n * minute) % week
unfolding since_monday
since_now offset t n e h = rw e (floor_counted t (n * minute) h)

-- the same some time later
pub since_counted : (offset t : ℤ) (n k : ℕ) → offset +ℤ pos 7200 ≡ pos n → is_within_windows 4611686018427387904 t ≡ true
    → since_monday offset (t +ℤ pos k) ≡ (counted t + (k + n * minute)) % week
unfolding since_monday
since_counted offset t n k e h = rw (e, +ℤ_assoc t (pos k) (pos (n * minute))) (floor_counted t (k + n * minute) h)

-- a moment and a time after it still have 64 bits
pub sum_fits : (t : ℤ) (d : ℕ) → is_within_windows 4611686018427387904 t ≡ true → d < 2 ^ 62 → mag (t +ℤ pos d) < 2 ^ 63
sum_fits (pos n) d e h = let l = within_pos 4611686018427387903 n e in omega arith
sum_fits (negsuc k) d e h =
    let l = within_neg 4611686018427387903 k e in
    by_test (ltb d (suc k)) (λ t. simp t (omega arith)) (λ t. simp t (omega arith))

-- ---- the order of moments

-- v comes k microseconds after t
pub record After (t v : ℤ) : Type 0 where
  pub k : ℕ
  pub some_time : 0 < k
  pub there : v ≡ t +ℤ pos k

pub after : (t v : ℤ) → T (lt_z t v) → After t v
after (pos a) (pos b) h = let l = ltb→lt a b h in record { k = b - a; some_time = omega arith; there = ap pos (omega arith) }
after (pos a) (negsuc b) h = absurd h
after (negsuc a) (pos b) h =
    let f : suc a ≤ b + suc a = omega arith in
    record { k = b + suc a; some_time = omega arith; there = simp (le-ltb _ _ f) (ap pos (omega arith)) }
after (negsuc a) (negsuc b) h =
    let l = ltb→lt b a h in
    let f : a - b < suc a = omega arith in
    record { k = a - b; some_time = omega arith; there = simp (lt-ltb _ _ f) (ap negsuc (omega arith)) }

pub later : (t : ℤ) (d : ℕ) → 0 < d → T (lt_z t (t +ℤ pos d))
later (pos a) d h = lt→ltb a (a + d) (omega arith)
later (negsuc a) d h =
    by_test (ltb d (suc a))
    (λ t. let g : d < suc a = ltb-true d (suc a) t in simp t (lt→ltb (suc a - suc d) a (omega arith)))
    (λ t. simp t tt)

-- of two times after a moment the shorter ends first
pub shorter : (t : ℤ) (k d : ℕ) → T (lt_z (t +ℤ pos k) (t +ℤ pos d)) → k < d
shorter (pos a) k d h = let l = ltb→lt (a + k) (a + d) h in omega arith
shorter (negsuc a) k d h =
    by_test (ltb k (suc a))
    (λ p.
    let f : k < suc a = ltb-true k (suc a) p in
    by_test (ltb d (suc a))
    (λ q. let g : d < suc a = ltb-true d (suc a) q in let l = ltb→lt (suc a - suc d) (suc a - suc k) (simp (p, q) at h) in omega arith)
    (λ q. let g : suc a ≤ d = ltb-false d (suc a) q in omega arith))
    (λ p.
    let f : suc a ≤ k = ltb-false k (suc a) p in
    by_test (ltb d (suc a))
    (λ q. absurd (simp (p, q) at h))
    (λ q. let g : suc a ≤ d = ltb-false d (suc a) q in let l = ltb→lt (k - suc a) (d - suc a) (simp (p, q) at h) in omega arith))
