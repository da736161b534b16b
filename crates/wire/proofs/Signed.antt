-- Two's complement: the steps of the code that goes between a value and the number that it stands for.
use mathlib.Core.Path.{◌≡◌, refl, ap, ◌∙◌}
use mathlib.Core.Bool.{true, false}
use Prim.Native.Nat.{ℕ, zero, suc, ◌+◌, ◌*◌, ◌-◌, ◌^◌, ◌≤◌, ◌<◌}
use native.Mathlib.Omega.{arith}
use lib.IntN.{ℤ, pos, negsuc, ◌-ℤ◌}
use lib.Signed.{mag, le_z}
use lib.Dec.{leb-zero}
use mir.Val.{Fits, SFits, to_z, of_z, hbits}
use mir.Syntax.{Width, w64}
use mir.ValLaws.{to_z_pos, to_z-of_z}
use borrow.Author.Tests.{lt-ltb, le-ltb}
use Rattle.wire.specs.Field.{signed, unsigned}
use Rattle.wire.proofs.Laws.{impossible}

-- -1 - n
below : (n : ℕ) → negsuc 0 -ℤ pos n ≡ negsuc n
below zero = refl
below (suc n) = ap negsuc (omega arith)

above : (n : ℕ) → negsuc 0 -ℤ negsuc n ≡ pos n
above n = simp (le-ltb (suc n) 1 (omega arith)) (ap pos (omega arith))

-- ---- from a value to the number

module _ (half v : ℕ) (h : half ≤ 2 ^ 63) (b : v < half * 2) where
  pub low : v < half → (to_z w64 v ≡ signed half v) × (mag (to_z w64 v) < half)
  unfolding signed
  low l =
      let e : to_z w64 v ≡ pos v = to_z_pos w64 v (omega arith) in
      rw e (simp (lt-ltb _ _ l), l)

  flipped : half ≤ v → negsuc 0 -ℤ to_z w64 (half - 1 - (v - half)) ≡ negsuc (half * 2 - 1 - v)
  flipped l =
      let n : ℕ = half - 1 - (v - half) in
      let f : n < 2 ^ 63 = omega arith in
      let g : n ≡ half * 2 - 1 - v = omega arith in
      let e : to_z w64 n ≡ pos n = to_z_pos w64 n f in
      rw e (below n ∙ ap negsuc g)

  pub high_fits : half ≤ v → SFits w64 (negsuc 0 -ℤ to_z w64 (half - 1 - (v - half)))
  high_fits l = rw (flipped l) (record { sfits = omega arith })

  pub high : half ≤ v → (z : ℤ) → z ≡ negsuc 0 -ℤ to_z w64 (half - 1 - (v - half)) → (to_z w64 (of_z w64 z) ≡ signed half v) × (mag (to_z w64 (of_z w64 z)) < half)
  unfolding signed
  high l z e =
      let f : SFits w64 z = rw e (high_fits l) in
      let g : to_z w64 (of_z w64 z) ≡ negsuc (half * 2 - 1 - v) = to_z-of_z w64 z f ∙ e ∙ flipped l in
      rw g (simp (le-ltb _ _ l), omega arith)

-- ---- from the number to its value, by its sign, as the code sees it

pub record NotNegative (half : ℕ) (z : ℤ) : Type 0 where
  pub n : ℕ
  pub same : z ≡ pos n
  pub seen : to_z w64 (of_z w64 z) ≡ pos n
  pub fits : Fits w64 n
  pub value : n ≡ unsigned half z

-- -1 - z is a number n below half, from which the value is made
pub record Negative (half : ℕ) (z : ℤ) : Type 0 where
  pub n : ℕ
  pub same : z ≡ negsuc n
  pub flipped : negsuc 0 -ℤ to_z w64 (of_z w64 z) ≡ pos n
  pub seen : to_z w64 n ≡ pos n
  pub below_half : n < half
  pub value : half - 1 - n + half ≡ unsigned half z

module _ (half : ℕ) (h : half ≤ 2 ^ 63) where
  pub not_negative : (z : ℤ) → mag z < half → le_z (pos 0) (to_z w64 (of_z w64 z)) ≡ true → NotNegative half z
  unfolding unsigned
  not_negative z m t = by_sign z (to_z-of_z w64 z (record { sfits = omega arith })) m t
    where
      by_sign : (z : ℤ) → to_z w64 (of_z w64 z) ≡ z → mag z < half → le_z (pos 0) (to_z w64 (of_z w64 z)) ≡ true → NotNegative half z
      by_sign (pos n) e m t = record { n = n; same = refl; seen = e; fits = record { fits = omega arith }; value = refl }
      by_sign (negsuc n) e m t = impossible (cc (rw e at t))

  pub negative : (z : ℤ) → mag z < half → le_z (pos 0) (to_z w64 (of_z w64 z)) ≡ false → Negative half z
  unfolding unsigned
  negative z m t = by_sign z (to_z-of_z w64 z (record { sfits = omega arith })) m t
    where
      by_sign : (z : ℤ) → to_z w64 (of_z w64 z) ≡ z → mag z < half → le_z (pos 0) (to_z w64 (of_z w64 z)) ≡ false → Negative half z
      by_sign (pos n) e m t = impossible (cc (leb-zero n, rw e at t))
      by_sign (negsuc n) e m t = record { n = n; same = refl; flipped = rw e (above n); seen = to_z_pos w64 n (omega arith); below_half = m; value = omega arith }

-- ---- casts between the widths

pub narrowed : (w : Width) (z : ℤ) → mag z < 2 ^ hbits w → mag z < 2 ^ 63 → to_z w (of_z w (to_z w64 (of_z w64 z))) ≡ z
narrowed w z h k =
    let f : SFits w z = record { sfits = h } in
    let g : SFits w64 z = record { sfits = k } in
    rw (to_z-of_z w64 z g) (to_z-of_z w z f)

pub widened : (w : Width) (z : ℤ) → SFits w z → mag z < 2 ^ 63 → to_z w64 (of_z w64 (to_z w (of_z w z))) ≡ z
widened w z f k =
    let g : SFits w64 z = record { sfits = k } in
    rw (to_z-of_z w z f) (to_z-of_z w64 z g)
