-- Bytes with zero bytes behind them, and the first byte of a count.
use mathlib.Core.Path.{◌≡◌, refl, sym, ap, ◌∙◌}
use mathlib.Core.Bool.{true}
use mathlib.Core.List.{List, [], ◌∷◌, ◌++◌}
use Prim.Native.Nat.{ℕ, zero, suc, ◌+◌, ◌*◌, ◌-◌, ◌<◌, ◌≤◌, ◌^◌}
use native.Mathlib.Omega.{arith}
use lib.ListN.{length, take, drop, replicate}
use lib.Seq.{take_all}
use lib.Pow.{are_bytes}
use borrow.Author.Tests.{lt-ltb}
use Rattle.wire.specs.Bytes.{be, be_from}
use Rattle.wire.specs.Int.{half}
use Rattle.wire.proofs.FieldLaws.{first_byte, part_bytes, halves}

-- ---- bytes

pub bytes_both : (s t : List ℕ) → are_bytes s ≡ true → are_bytes t ≡ true → are_bytes (s ++ t) ≡ true
bytes_both [] t a b = b
bytes_both (x ∷ s) t a b = let w = first_byte x s a in simp (lt-ltb _ _ w.0) (bytes_both s t w.1 b)

pub bytes_zeros : (n : ℕ) → are_bytes (replicate n 0) ≡ true
bytes_zeros zero = refl
bytes_zeros (suc n) = bytes_zeros n

pub bytes_behind : (k : ℕ) (s : List ℕ) → are_bytes s ≡ true → are_bytes (drop k s) ≡ true
bytes_behind zero s a = a
bytes_behind (suc k) [] a = refl
bytes_behind (suc k) (x ∷ s) a = bytes_behind k s (first_byte x s a).1

pub bytes_front : (k : ℕ) (s : List ℕ) → are_bytes s ≡ true → are_bytes (take k s) ≡ true
bytes_front zero s a = refl
bytes_front (suc k) [] a = refl
bytes_front (suc k) (x ∷ s) a = let w = first_byte x s a in simp (lt-ltb _ _ w.0) (bytes_front k s w.1)

-- ---- the number that bytes spell, by its first byte

spread : (acc x p r : ℕ) → (acc * 256 + x) * p + r ≡ acc * (256 * p) + (x * p + r)
spread acc x p r = omega arith

from_acc : (s : List ℕ) (acc : ℕ) → be_from acc s ≡ acc * 256 ^ length s + be s
unfolding be be_from
from_acc [] acc = omega arith
from_acc (x ∷ s) acc =
    let w : 256 ^ suc (length s) ≡ 256 * 256 ^ length s = omega arith in
    let g : be_from (acc * 256 + x) s ≡ acc * (256 * 256 ^ length s) + be_from x s =
    from_acc s (acc * 256 + x) ∙ (spread acc x (256 ^ length s) (be s) ∙ ap (λ (n : ℕ). acc * (256 * 256 ^ length s) + n) (sym (from_acc s x))) in
    let o : 0 + x ≡ x = omega arith in
    rw (w, o) g

be_first : (b : ℕ) (t : List ℕ) → be (b ∷ t) ≡ b * 256 ^ length t + be t
unfolding be be_from
be_first b t = let o : 0 + b ≡ b = omega arith in rw o (from_acc t b)

whole_below : (s : List ℕ) → are_bytes s ≡ true → be s < 256 ^ length s
whole_below s a =
    let w = part_bytes s 0 (length s) a (omega arith) in
    rw (take_all (length s) s (omega arith)) at w.1

half_of : (m : ℕ) → half (suc m) ≡ 128 * 256 ^ m
half_of m = omega (arith, halves (suc m) (omega arith))

pub first_large : (b : ℕ) (t : List ℕ) → 128 ≤ b → half (suc (length t)) ≤ be (b ∷ t)
first_large b t h =
    rw (half_of (length t), be_first b t) (omega (arith, mul_le b (256 ^ length t) h))
  where
    mul_le : (b p : ℕ) → 128 ≤ b → 128 * p ≤ b * p
    mul_le b p h = let e : (b - 128) + 128 ≡ b = omega arith in rw (← e) (omega arith)

pub first_small : (b : ℕ) (t : List ℕ) → are_bytes t ≡ true → b < 128 → be (b ∷ t) < half (suc (length t))
first_small b t a h =
    rw (half_of (length t), be_first b t) (omega (arith, whole_below t a, mul_le b (256 ^ length t) h))
  where
    mul_le : (b p : ℕ) → b < 128 → b * p + p ≤ 128 * p
    mul_le b p h = let e : b + suc (127 - b) ≡ 128 = omega arith in rw (← e) (omega arith)
