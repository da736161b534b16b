-- Xorshift by its bits: a shift moves them, exclusive-or adds them without a carry, and a number of 64 bits is told by them.
use mathlib.Core.Path.{◌≡◌, refl, sym, ap, ◌∙◌}
use Prim.Native.Nat.{ℕ, zero, suc, ◌+◌, ◌*◌, ◌-◌, ◌/◌, ◌%◌, ◌^◌, ◌≤◌, ◌<◌}
use native.Mathlib.Nat.{pow-suc, zero-div}
use native.Mathlib.Omega.{arith}
use lib.Bits.{bit_xor, differ, xor_step, xor_shr, xor_lt, shifted_even}
use lib.Pow.{pow-add, shl-shr, shr-shr, field, mod-mod-pow, shr_le}
use lib.Dec.{ltb}
use borrow.Author.Tests.{ltb-true, ltb-false}
use Rattle.wire.proofs.Laws.{by_test}
use Rattle.load.specs.Xorshift.{left, right, next_of}
use Rattle.load.specs.Draws.{bit_at, XorLeft, XorRight, DrawnFrom, NextIsByBits}

-- ---- exclusive-or

digits_added : (x y : ℕ) → x < 2 → y < 2 → differ x y ≡ (x + y) % 2
digits_added zero zero h k = refl
digits_added zero (suc zero) h k = refl
digits_added (suc zero) zero h k = refl
digits_added (suc zero) (suc zero) h k = refl
digits_added zero (suc (suc y)) h k = absurd (omega arith)
digits_added (suc zero) (suc (suc y)) h k = absurd (omega arith)
digits_added (suc (suc x)) y h k = absurd (omega arith)

xor_bit : (i x y : ℕ) → bit_at i (bit_xor x y) ≡ (bit_at i x + bit_at i y) % 2
xor_bit i x y =
    let e : bit_xor x y / 2 ^ i ≡ bit_xor (x / 2 ^ i) (y / 2 ^ i) = xor_shr x y i in
    let f = xor_step (x / 2 ^ i) (y / 2 ^ i) in
    let d = digits_added (bit_at i x) (bit_at i y) (omega arith) (omega arith) in
    ap (λ (n : ℕ). n % 2) (e ∙ f ∙ ap (λ (n : ℕ). bit_xor (x / 2 ^ i / 2) (y / 2 ^ i / 2) * 2 + n) d) ∙ last _ (bit_at i x + bit_at i y)
  where
    last : (a n : ℕ) → (a * 2 + n % 2) % 2 ≡ n % 2
    last a n = omega arith

-- ---- shifts

-- a bit of the 64 lowest
low_bit : (m i n : ℕ) → (n + 1) + i ≡ 64 → bit_at i (m % 2 ^ 64) ≡ bit_at i m
low_bit m i n e =
    let f : m % 2 ^ ((n + 1) + i) / 2 ^ i ≡ m / 2 ^ i % 2 ^ (n + 1) = field m (n + 1) i in
    ap (λ (k : ℕ). m % 2 ^ k / 2 ^ i % 2) (sym e) ∙ ap (λ (k : ℕ). k % 2) f ∙ mod-mod-pow (m / 2 ^ i) n 1

left_high : (k x i : ℕ) → i + k < 64 → bit_at (i + k) (left k x) ≡ bit_at i x
left_high k x i h =
    let c : i + k ≡ k + i = omega arith in
    low_bit (x * 2 ^ k) (i + k) (63 - (i + k)) (omega arith)
    ∙ ap (λ (n : ℕ). n % 2) (ap (λ (n : ℕ). x * 2 ^ k / 2 ^ n) c ∙ sym (shr-shr (x * 2 ^ k) k i) ∙ ap (λ (n : ℕ). n / 2 ^ i) (shl-shr x k))

left_low : (k x i : ℕ) → i < k → k < 64 → bit_at i (left k x) ≡ 0
left_low k x i h l = low_bit (x * 2 ^ k) i (63 - i) (omega arith) ∙ even (k - suc i) (omega arith)
  where
    even : (d : ℕ) → k ≡ suc d + i → x * 2 ^ k / 2 ^ i % 2 ≡ 0
    even d e =
        let f : x * 2 ^ k ≡ x * 2 ^ suc d * 2 ^ i =
        ap (λ (n : ℕ). x * 2 ^ n) e ∙ ap (λ (n : ℕ). x * n) (pow-add 2 (suc d) i) ∙ omega arith in
        ap (λ (n : ℕ). n / 2 ^ i % 2) f ∙ ap (λ (n : ℕ). n % 2) (shl-shr (x * 2 ^ suc d) i) ∙ shifted_even x d

right_fits : (k x : ℕ) → x < 2 ^ 64 → right k x < 2 ^ 64
right_fits k x h = omega (arith, h, shr_le x k)

right_low : (k x i : ℕ) → bit_at i (right k x) ≡ bit_at (i + k) x
right_low k x i =
    let c : k + i ≡ i + k = omega arith in
    ap (λ (n : ℕ). n % 2) (shr-shr x k i ∙ ap (λ (n : ℕ). x / 2 ^ n) c)

-- a number of 64 bits has no bit above them
right_high : (x i : ℕ) → x < 2 ^ 64 → 64 ≤ i → bit_at i x ≡ 0
right_high x i h l =
    let j : ℕ = i - 64 in
    let e : i ≡ 64 + j = omega arith in
    let f : x / 2 ^ 64 ≡ 0 = omega arith in
    ap (λ (n : ℕ). x / 2 ^ n % 2) e ∙ ap (λ (n : ℕ). n % 2) (sym (shr-shr x 64 j) ∙ ap (λ (n : ℕ). n / 2 ^ j) f ∙ zero-div (2 ^ j))

-- ---- the three stages

xor_left : (k x : ℕ) → k < 64 → x < 2 ^ 64 → XorLeft k x (bit_xor x (left k x))
xor_left k x l h =
    record {
      fits = xor_lt 64 x (left k x) h (omega arith);
      stay = λ i b. xor_bit i x (left k x) ∙ ap (λ (n : ℕ). (bit_at i x + n) % 2) (left_low k x i b l) ∙ alone (bit_at i x) (omega arith);
      meet = λ i b. xor_bit (i + k) x (left k x) ∙ ap (λ (n : ℕ). (bit_at (i + k) x + n) % 2) (left_high k x i b);
    }
  where
    alone : (n : ℕ) → n < 2 → (n + 0) % 2 ≡ n
    alone n b = omega arith

xor_right : (k x : ℕ) → x < 2 ^ 64 → XorRight k x (bit_xor x (right k x))
xor_right k x h =
    record {
      fits = xor_lt 64 x (right k x) h (right_fits k x h);
      stay = λ i b c. xor_bit i x (right k x) ∙ ap (λ (n : ℕ). (bit_at i x + n) % 2) (right_low k x i ∙ right_high x (i + k) h b)
          ∙ alone (bit_at i x) (omega arith);
      meet = λ i b. xor_bit i x (right k x) ∙ ap (λ (n : ℕ). (bit_at i x + n) % 2) (right_low k x i);
    }
  where
    alone : (n : ℕ) → n < 2 → (n + 0) % 2 ≡ n
    alone n b = omega arith

-- ---- a number is told by its bits

half_bit : (i x : ℕ) → bit_at (suc i) x ≡ bit_at i (x / 2)
half_bit i x =
    let c : suc i ≡ 1 + i = omega arith in
    ap (λ (n : ℕ). n % 2) (ap (λ (n : ℕ). x / 2 ^ n) c ∙ sym (shr-shr x 1 i))

pub same_bits : (n x y : ℕ) → x < 2 ^ n → y < 2 ^ n → ((i : ℕ) → i < n → bit_at i x ≡ bit_at i y) → x ≡ y
same_bits zero x y h k f = omega arith
same_bits (suc n) x y h k f =
    let p = pow-suc 2 n in
    let e : x / 2 ≡ y / 2 =
    same_bits n (x / 2) (y / 2) (omega arith) (omega arith) (λ i b. sym (half_bit i x) ∙ f (suc i) (omega arith) ∙ half_bit i y) in
    let o : x / 1 % 2 ≡ y / 1 % 2 = f 0 (omega arith) in
    omega arith

one_left : (k x y z : ℕ) → XorLeft k x y → XorLeft k x z → y ≡ z
one_left k x y z p q =
    same_bits 64 y z p.fits q.fits
    (λ i b. by_test (ltb i k)
    (λ t. p.stay i (ltb-true i k t) ∙ sym (q.stay i (ltb-true i k t)))
    (λ t.
    let l = ltb-false i k t in
    let e : i ≡ (i - k) + k = omega arith in
    let r : bit_at ((i - k) + k) y ≡ bit_at ((i - k) + k) z = p.meet (i - k) (omega arith) ∙ sym (q.meet (i - k) (omega arith)) in
    rw (← e) at r))

one_right : (k x y z : ℕ) → XorRight k x y → XorRight k x z → y ≡ z
one_right k x y z p q =
    same_bits 64 y z p.fits q.fits
    (λ i b. by_test (ltb (i + k) 64)
    (λ t. p.meet i (ltb-true (i + k) 64 t) ∙ sym (q.meet i (ltb-true (i + k) 64 t)))
    (λ t. p.stay i (ltb-false (i + k) 64 t) b ∙ sym (q.stay i (ltb-false (i + k) 64 t) b)))

-- ---- a draw

drawn_next : (x : ℕ) → x < 2 ^ 64 → DrawnFrom x (next_of x)
unfolding next_of
drawn_next x h =
    let a : ℕ = bit_xor x (left 13 x) in
    let p : XorLeft 13 x a = xor_left 13 x (omega arith) h in
    let b : ℕ = bit_xor a (right 7 a) in
    let q : XorRight 7 a b = xor_right 7 a p.fits in
    record { a = a; b = b; left_13 = p; right_7 = q; left_17 = xor_left 17 b (omega arith) q.fits }

pub one_draw : (x y z : ℕ) → DrawnFrom x y → DrawnFrom x z → y ≡ z
one_draw x y z p q =
    let e : p.a ≡ q.a = one_left 13 x p.a q.a p.left_13 q.left_13 in
    let r : XorRight 7 q.a p.b = rw e at p.right_7 in
    let f : p.b ≡ q.b = one_right 7 q.a p.b q.b r q.right_7 in
    let s : XorLeft 17 q.b y = rw f at p.left_17 in
    one_left 17 q.b y z s q.left_17

pub next_is_by_bits : NextIsByBits
next_is_by_bits x y h = (λ e. rw e at (drawn_next x h), λ d. one_draw x (next_of x) y (drawn_next x h) d)
