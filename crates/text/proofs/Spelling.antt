-- Numbers and bytes are spelled as Spelling.antt says, digit by digit, and in no other way.
use mathlib.Core.Path.{◌≡◌, refl, sym, ap, ◌∙◌}
use mathlib.Core.Bool.{Bool, true, false}
use mathlib.Core.List.{List, [], ◌∷◌, ◌++◌}
use Prim.Native.Nat.{ℕ, zero, suc, ◌+◌, ◌*◌, ◌-◌, ◌/◌, ◌%◌, ◌^◌, ◌≤◌, ◌<◌}
use Prim.Native.Char.{code}
use native.Mathlib.Nat.{pow-suc, pow-zero, mod-lt, div-add-mod', not-suc-le-zero, mul-le-mul_right, add-mul, mul_assoc}
use native.Mathlib.Nat.{pow-le-pow_right, le-div_iff_mul-le, div-eq_of_lt-le}
use native.Mathlib.Numerals.{add-one}
use native.Mathlib.Omega.{arith}
use lib.ListN.{length, get_or, length-append}
use lib.Dec.{ltb, eqb}
use lib.Pow.{are_bytes}
use borrow.Author.Tests.{lt-ltb, ltb-true, ltb-false, eqb-true}
use Rattle.wire.specs.Bytes.{pick}
use Rattle.wire.proofs.Laws.{by_test, impossible}
use Rattle.wire.proofs.FieldLaws.{first_byte}
use Rattle.text.specs.Numeral.{glyph_of, numeral, decimal_text, lower_of, hex_bytes}
use Rattle.text.specs.Spelling.{upper_digits, lower_digits, Value, Unpadded, SpelledTo, BytesSpelled, SpellingLaws}
use Rattle.text.proofs.Laws.{shorter}

-- ---- digits, by trying each value

abbrev all_below : ℕ → (ℕ → Bool) → Bool
all_below zero p = true
all_below (suc n) p = pick (p n) (all_below n p) false

tried : (n : ℕ) (p : ℕ → Bool) → all_below n p ≡ true → (d : ℕ) → d < n → p d ≡ true
tried zero p e d h = absurd (not-suc-le-zero h)
tried (suc n) p e d h = by (p n) refl e (λ f k. tried n p f d k)
  where
    by : (t : Bool) → p n ≡ t → pick t (all_below n p) false ≡ true → (all_below n p ≡ true → d < n → p d ≡ true) → p d ≡ true
    by true q f go =
        by_test (ltb d n) (λ u. go f (ltb-true d n u)) (λ u. let k : n ≤ d = ltb-false d n u in let z : d ≡ n = omega arith in rw z q)
    by false q f go = impossible cc

upper_digit : (d : ℕ) → d < 16 → glyph_of d ≡ get_or upper_digits d 0
upper_digit d h = eqb-true _ _ (tried 16 (λ x. eqb (glyph_of x) (get_or upper_digits x 0)) refl d h)

lower_digit : (d : ℕ) → d < 16 → lower_of d ≡ get_or lower_digits d 0
lower_digit d h = eqb-true _ _ (tried 16 (λ x. eqb (lower_of x) (get_or lower_digits x 0)) refl d h)

-- the value of a digit
abbrev valued : ℕ → ℕ
valued c = pick (ltb c 58) (c - 48) (c - 55)

digit_value : (d : ℕ) → d < 16 → valued (get_or upper_digits d 0) ≡ d
digit_value d h = eqb-true _ _ (tried 16 (λ x. eqb (valued (get_or upper_digits x 0)) x) refl d h)

same_digit : (c d e : ℕ) → d < 16 → e < 16 → c ≡ get_or upper_digits d 0 → c ≡ get_or upper_digits e 0 → d ≡ e
same_digit c d e h k p q = sym (digit_value d h) ∙ ap valued (sym p ∙ q) ∙ digit_value e k

-- ---- a digit more at the end

carried : (d x w base e : ℕ) → (d * x + w) * base + e ≡ d * (x * base) + (w * base + e)
carried d x w base e = rw (add-mul (d * x) w base, mul_assoc d x base) (omega arith)

value_snoc : (base : ℕ) (s : List ℕ) (c d v : ℕ) → d < base → c ≡ get_or upper_digits d 0 → Value base s v → Value base (s ++ (c ∷ [])) (v * base + d)
value_snoc base [] c d v h e x = (d, 0, h, e, refl, rw (pow-zero, x) (omega arith))
value_snoc base (b ∷ s) c d v h e x =
    let l : length (s ++ (c ∷ [])) ≡ suc (length s) = length-append s (c ∷ []) ∙ omega arith in
    let i = value_snoc base s c d x.1 h e x.4 in
    (x.0, x.1 * base + d, x.2, x.3, i, rw (l, pow-suc, x.5) (carried x.0 (base ^ length s) x.1 base d))

-- the first digit of a number above zero is no zero
abbrev NotZero : List ℕ → Type 0
NotZero [] = ⊥
NotZero (c ∷ s) = c ≡ code "0" → ⊥

first_digit : (base : ℕ) (s : List ℕ) (v : ℕ) → base ≤ 16 → 1 ≤ v → SpelledTo base s v → NotZero s
first_digit base [] v b h x = x.unpadded
first_digit base (c ∷ []) v b h x = λ e.
    let d : ℕ = x.value.0 in
    let k : d < base = x.value.2 in
    let z : d ≡ 0 = same_digit c d 0 (omega arith) (omega arith) x.value.3 e in
    let w : x.value.1 ≡ 0 = x.value.4 in
    let q : v ≡ d * base ^ 0 + x.value.1 = x.value.5 in
    let r : v ≡ 0 = q ∙ rw (pow-zero, z, w) (omega arith) in
    omega arith
first_digit base (c ∷ d ∷ s) v b h x = x.unpadded

unpadded_snoc : (s : List ℕ) (c : ℕ) → NotZero s → Unpadded (s ++ (c ∷ []))
unpadded_snoc [] c x = absurd x
unpadded_snoc (b ∷ []) c x = x
unpadded_snoc (b ∷ d ∷ s) c x = x

one_digit : (base v : ℕ) → base ≤ 16 → v < base → SpelledTo base (glyph_of v ∷ []) v
one_digit base v b h = record { unpadded = tt; value = (v, 0, h, upper_digit v (omega arith), refl, rw pow-zero (omega arith)) }

spelled : (base n v : ℕ) → 2 ≤ base → base ≤ 16 → v < base ^ suc n → SpelledTo base (numeral base (suc n) v) v
unfolding numeral
spelled base zero v a b h =
    let g : v < base ^ 0 * base = rw pow-suc at h in
    let l : v < base = omega (arith, rw pow-zero at g) in
    simp (lt-ltb _ _ l) (one_digit base v b l)
spelled base (suc n) v a b h =
    let p : 0 < base = omega arith in
    let r : v % base < base = mod-lt v p in
    by_test (ltb v base)
    (λ t. simp t (one_digit base v b (ltb-true _ _ t)))
    (λ t.
    let k : base ≤ v = ltb-false _ _ t in
    let i : SpelledTo base (numeral base (suc n) (v / base)) (v / base) = spelled base n (v / base) a b (shorter base (suc n) v p h) in
    let m : 1 ≤ v / base = (le-div_iff_mul-le p).1 (omega arith) in
    let c : ℕ = glyph_of (v % base) in
    let e : v / base * base + v % base ≡ v = div-add-mod' v base in
    let w : SpelledTo base (numeral base (suc n) (v / base) ++ (c ∷ [])) (v / base * base + v % base) =
    record {
      unpadded = unpadded_snoc (numeral base (suc n) (v / base)) c (first_digit base (numeral base (suc n) (v / base)) (v / base) b m i);
      value = value_snoc base (numeral base (suc n) (v / base)) c (v % base) (v / base) r (upper_digit (v % base) (omega arith)) i.value;
    } in
    simp t (rw e at w))

-- ---- one spelling

value_below : (base : ℕ) (s : List ℕ) (v : ℕ) → Value base s v → v < base ^ length s
value_below base [] v x = rw pow-zero (omega arith)
value_below base (c ∷ s) v x =
    let h : x.0 + 1 ≤ base = omega (arith, x.2) in
    let m : (x.0 + 1) * base ^ length s ≤ base * base ^ length s = mul-le-mul_right (base ^ length s) h in
    let i : x.1 < base ^ length s = value_below base s x.1 x.4 in
    rw pow-suc (omega (arith, x.5))

value_above : (base : ℕ) (c : ℕ) (s : List ℕ) (v : ℕ) → NotZero (c ∷ s) → Value base (c ∷ s) v → base ^ length s ≤ v
value_above base c s v n x =
    by_test (ltb x.0 1)
    (λ t.
    let z : x.0 ≡ 0 = omega (arith, ltb-true x.0 1 t) in
    absurd (n (x.3 ∙ rw z)))
    (λ t.
    let h : 1 ≤ x.0 = ltb-false x.0 1 t in
    let m : 1 * base ^ length s ≤ x.0 * base ^ length s = mul-le-mul_right (base ^ length s) h in
    omega (arith, x.5))

-- the first digit is a quotient
quotient : (base : ℕ) (s : List ℕ) (v d w : ℕ) → Value base s w → v ≡ d * base ^ length s + w → v / base ^ length s ≡ d
quotient base s v d w x e =
    let i : w < base ^ length s = value_below base s w x in
    div-eq_of_lt-le (base ^ length s) (omega arith) (omega arith)

same_value : (base : ℕ) (s t : List ℕ) (v : ℕ) → base ≤ 16 → length s ≡ length t → Value base s v → Value base t v → s ≡ t
same_value base [] [] v b l x y = refl
same_value base [] (d ∷ t) v b l x y = absurd (omega arith)
same_value base (c ∷ s) [] v b l x y = absurd (omega arith)
same_value base (c ∷ s) (d ∷ t) v b l x y =
    let n : length s ≡ length t = omega arith in
    let q : x.0 ≡ y.0 = sym (quotient base s v x.0 x.1 x.4 x.5) ∙ rw n (quotient base t v y.0 y.1 y.4 y.5) in
    let e : v ≡ y.0 * base ^ length t + x.1 = x.5 ∙ rw (q, n) in
    let w : x.1 ≡ y.1 = omega (arith, y.5) in
    let i : s ≡ t = same_value base s t y.1 b n (rw w at x.4) y.4 in
    rw (x.3, y.3, q, i)

same_length : (base : ℕ) (s t : List ℕ) (v : ℕ) → 2 ≤ base → base ≤ 16 → SpelledTo base s v → SpelledTo base t v → length s ≤ length t
same_length base [] t v a b x y = omega arith
same_length base (c ∷ []) [] v a b x y = absurd y.unpadded
same_length base (c ∷ []) (d ∷ t) v a b x y = omega arith
same_length base (c ∷ e ∷ s) t v a b x y =
    by_test (ltb (length t) (suc (suc (length s))))
    (λ u.
    let h : length t ≤ suc (length s) = omega (arith, ltb-true (length t) (suc (suc (length s))) u) in
    let p : 0 < base = omega arith in
    let m : base ^ length t ≤ base ^ suc (length s) = pow-le-pow_right p h in
    let k : v < base ^ length t = value_below base t v y.value in
    let j : base ^ suc (length s) ≤ v = value_above base c (e ∷ s) v x.unpadded x.value in
    absurd (omega arith))
    (λ u. ltb-false _ _ u)

one_number : (base : ℕ) (s : List ℕ) (v w : ℕ) → base ≤ 16 → Value base s v → Value base s w → v ≡ w
one_number base [] v w b x y = x ∙ sym y
one_number base (c ∷ s) v w b x y =
    let h : x.0 < base = x.2 in
    let k : y.0 < base = y.2 in
    let e : x.0 ≡ y.0 = same_digit c x.0 y.0 (omega arith) (omega arith) x.3 y.3 in
    let f : x.1 ≡ y.1 = one_number base s x.1 y.1 b x.4 y.4 in
    x.5 ∙ rw (e, f) (sym y.5)

-- ---- bytes

bytes : (s : List ℕ) → are_bytes s ≡ true → BytesSpelled (hex_bytes s) s
unfolding hex_bytes
bytes [] e = tt
bytes (b ∷ s) e =
    let f = first_byte b s e in
    let l : b < 256 = f.0 in
    let hi : b / 16 < 16 = omega arith in
    let lo : b % 16 < 16 = omega arith in
    (b / 16, b % 16, hi, lo, lower_digit (b / 16) hi, lower_digit (b % 16) lo, sym (div-add-mod' b 16), bytes s f.1)

pub spelling_laws : SpellingLaws
spelling_laws =
    record {
      decimal = λ v h. spelled 10 19 v (omega arith) (omega arith) h;
      hexadecimal = λ v h. spelled 16 19 v (omega arith) (omega arith) h;
      one_spelling =
          λ base s t v a b x y.
          let l = same_length base s t v a b x y in
          let m = same_length base t s v a b y x in
          same_value base s t v b (omega arith) x.value y.value;
      one_number = λ base s v w b x y. one_number base s v w b x.value y.value;
      signed = λ n h. spelled 10 19 n (omega arith) (omega arith) h;
      signed_negative = λ n h. (decimal_text (n + 1), refl, rw add-one (spelled 10 19 (suc n) (omega arith) (omega arith) h));
      bytes = bytes;
    }
