-- Laws of numerals to any base, for the loops that write them, and of bytes as pairs of digits.
use mathlib.Core.Path.{◌≡◌, refl, ap, ◌∙◌}
use mathlib.Core.List.{List, [], ◌∷◌, ◌++◌}
use Prim.Native.Nat.{ℕ, zero, suc, ◌+◌, ◌*◌, ◌-◌, ◌/◌, ◌%◌, ◌^◌, ◌≤◌, ◌<◌}
use native.Mathlib.Nat.{pow-zero, pow-suc, div-lt_iff_lt-mul, div-lt_self, div-le_self, mod-lt}
use native.Mathlib.Numerals.{add-one}
use native.Mathlib.Omega.{arith}
use lib.ListN.{length, drop, get_or, set, length-append, drop_of_length-le}
use lib.Seq.{drop-cons}
use lib.Dec.{ltb}
use borrow.Author.Tests.{lt-ltb, le-ltb, ltb-true, ltb-false}
use Rattle.wire.specs.Bytes.{put}
use Rattle.wire.proofs.Laws.{put_set, put_one, put_two, put_next, put_none, by_test}
use Rattle.text.specs.Numeral.{glyph_of, numeral, lower_of, hex_bytes}

-- one digit less
pub shorter : (base n x : ℕ) → 0 < base → x < base ^ suc n → x / base < base ^ n
shorter base n x p h = (div-lt_iff_lt-mul p).1 (rw pow-suc at h)

-- the measure of both loops
pub falls : (base x : ℕ) → 2 ≤ base → base ≤ x → x / base < x
falls base x p h =
    let a : 0 < x = omega arith in
    let b : 1 < base = omega arith in
    div-lt_self a b

-- a shorter number stays below the bound
pub stays : (base x : ℕ) → x < base ^ 20 → x / base < base ^ 20
stays base x h = let l : x / base ≤ x = div-le_self x base in omega arith

pub digit_below : (base x : ℕ) → 2 ≤ base → base ≤ 16 → x % base < 16
digit_below base x p h =
    let a : 0 < base = omega arith in
    let l : x % base < base = mod-lt x a in
    omega arith

numeral_fuel : (base n x : ℕ) → 0 < base → x < base ^ suc n → numeral base (suc n) x ≡ numeral base (suc (suc n)) x
unfolding numeral
numeral_fuel base zero x p h =
    let g : x < base ^ 0 * base = rw pow-suc at h in
    let l : x < base = omega (arith, rw pow-zero at g) in
    simp (lt-ltb _ _ l)
numeral_fuel base (suc n) x p h =
    by_test (ltb x base)
    (λ t. simp t)
    (λ t. simp t (ap (λ (l : List ℕ). l ++ (glyph_of (x % base) ∷ [])) (numeral_fuel base n (x / base) p (shorter base (suc n) x p h))))

one_digit : (base n x : ℕ) → x < base → numeral base (suc n) x ≡ glyph_of x ∷ []
unfolding numeral
one_digit base n x h = simp (lt-ltb _ _ h)

last_digit : (base n x : ℕ) → base ≤ x → numeral base (suc n) x ≡ numeral base n (x / base) ++ (glyph_of (x % base) ∷ [])
unfolding numeral
last_digit base n x h = simp (le-ltb _ _ h)

pub numeral_one : (base x : ℕ) → x < base → numeral base 20 x ≡ glyph_of x ∷ []
numeral_one base x h = one_digit base 19 x h

pub numeral_more : (base x : ℕ) → 0 < base → base ≤ x → x < base ^ 20 → numeral base 20 x ≡ numeral base 20 (x / base) ++ (glyph_of (x % base) ∷ [])
numeral_more base x p h k =
    last_digit base 19 x h ∙ ap (λ (t : List ℕ). t ++ (glyph_of (x % base) ∷ [])) (numeral_fuel base 18 (x / base) p (shorter base 19 x p k))

-- the length of a number of one digit more
pub numeral_longer : (base x : ℕ) → 0 < base → base ≤ x → x < base ^ 20 → length (numeral base 20 x) ≡ length (numeral base 20 (x / base)) + 1
numeral_longer base x p h k = ap length (numeral_more base x p h k) ∙ simp length-append

-- a numeral has more than one digit exactly where the number is not below the base
pub several : (base x : ℕ) → 1 < length (numeral base 20 x) → base ≤ x
several base x h =
    by_test (ltb x base) (λ t. let e = ap length (numeral_one base x (ltb-true x base t)) in absurd (omega arith)) (λ t. ltb-false x base t)

pub digit_there : (base x : ℕ) → 1 ≤ length (numeral base 20 x)
digit_there base x =
    by_test (ltb x base)
    (λ t. let e = ap length (numeral_one base x (ltb-true x base t)) in omega arith)
    (λ t. rw (last_digit base 19 x (ltb-false x base t)) (simp length-append (omega arith)))

pub single : (base x : ℕ) → 0 < base → x < base ^ 20 → length (numeral base 20 x) ≤ 1 → x < base
single base x p h l =
    by_test (ltb x base)
    (λ t. ltb-true x base t)
    (λ t.
    let e = numeral_longer base x p (ltb-false x base t) h in
    let d = digit_there base (x / base) in
    absurd (omega arith))

pub numeral_length : (base n x : ℕ) → length (numeral base n x) ≤ n
unfolding numeral
numeral_length base zero x = omega arith
numeral_length base (suc n) x =
    let l : length (numeral base n (x / base)) ≤ n = numeral_length base n (x / base) in
    by_test (ltb x base) (λ t. simp t (omega arith)) (λ t. simp (t, length-append) (omega arith))

-- a turn of the loop that writes the digits
pub spell_turn : (base : ℕ) (d d₀ : List ℕ) (to i x : ℕ) (t : List ℕ) → 0 < base → base ≤ x → x < base ^ 20 → i ≡ length (numeral base 20 x) → to + i ≤ length d
    → put d to (numeral base 20 x) ≡ put d₀ to t → put (set d (to + (i - 1)) (glyph_of (x % base))) to (numeral base 20 (x / base)) ≡ put d₀ to t
spell_turn base d d₀ to i x t p h k e l inv =
    let g : length (numeral base 20 x) ≡ length (numeral base 20 (x / base)) + 1 = numeral_longer base x p h k in
    let m : length (numeral base 20 (x / base)) ≡ i - 1 = omega arith in
    let f : to + (i - 1) < length d = omega arith in
    put_set d to (i - 1) (glyph_of (x % base)) (numeral base 20 (x / base)) m f ∙ (rw (numeral_more base x p h k) at inv)

-- the last turn of spelling: one digit is left
pub spell_end : (base : ℕ) (d d₀ : List ℕ) (to x : ℕ) (t : List ℕ) → x < base → to < length d → put d to (numeral base 20 x) ≡ put d₀ to t → set d to (glyph_of x) ≡ put d₀ to t
spell_end base d d₀ to x t h k inv = put_one d to (glyph_of x) k ∙ (rw (numeral_one base x h) at inv)

-- ---- bytes

pub length_hex_bytes : (s : List ℕ) → length (hex_bytes s) ≡ length s * 2
unfolding hex_bytes
length_hex_bytes [] = refl
length_hex_bytes (b ∷ s) = let h : length (hex_bytes s) ≡ length s * 2 = length_hex_bytes s in omega arith

-- a turn of the loop that writes bytes
pub bytes_turn : (d d₀ s : List ℕ) (at i : ℕ) (to : ℕ) (t : List ℕ) → i < length s → at + 1 < length d → put d at (hex_bytes (drop i s)) ≡ put d₀ to t
    → put (set (set d at (lower_of (get_or s i 0 / 16))) (at + 1) (lower_of (get_or s i 0 % 16))) (at + 2) (hex_bytes (drop (i + 1) s)) ≡ put d₀ to t
unfolding hex_bytes
bytes_turn d d₀ s at i to t h k inv =
    let a : ℕ = lower_of (get_or s i 0 / 16) in
    let b : ℕ = lower_of (get_or s i 0 % 16) in
    let m : at + 2 ≤ length d = omega arith in
    rw (put_two d at a b k) (put_next d (a ∷ b ∷ []) (hex_bytes (drop (i + 1) s)) at 2 refl m ∙ (rw add-one (rw (drop-cons s i 0 h) at inv)))

pub bytes_end : (d s : List ℕ) (at i : ℕ) → length s ≤ i → put d at (hex_bytes (drop i s)) ≡ d
unfolding hex_bytes
bytes_end d s at i h = rw (drop_of_length-le s h) (put_none d at)

-- ---- signed numbers

-- a sign and the digits after it
pub signed_digits : (d d₁ : List ℕ) (to n : ℕ) (t : List ℕ) → length t ≡ n → to + (n + 1) ≤ length d → d₁ ≡ put (set d to 45) (to + 1) t → d₁ ≡ put d to (45 ∷ t)
signed_digits d d₁ to n t e h p =
    let l : to < length d = omega arith in
    let m : to + 1 ≤ length d = omega arith in
    p ∙ rw (put_one d to 45 l) (put_next d (45 ∷ []) t to 1 refl m)
