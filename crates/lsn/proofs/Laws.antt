-- Laws of hexadecimal texts, for the loops that read and write them.
use mathlib.Core.Path.{◌≡◌, refl, sym, ap, ◌∙◌}
use mathlib.Core.List.{List, [], ◌∷◌}
use mathlib.Core.Option.{some, none}
use Prim.Native.Nat.{ℕ, ◌+◌, ◌*◌, ◌/◌, ◌%◌, ◌^◌, ◌≤◌, ◌<◌}
use native.Mathlib.Nat.{pow-suc, pow-le-pow_right}
use native.Mathlib.Numerals.{add-one}
use native.Mathlib.Omega.{arith}
use lib.ListN.{length, drop, get_or, length-append, drop_of_length-le}
use lib.Seq.{drop-cons}
use borrow.Author.Tests.{lt-ltb, le-ltb, le-leb, lt-leb, ltb-true, ltb-false}
use Rattle.wire.specs.Bytes.{placed}
use Rattle.text.specs.Numeral.{hex_text}
use Rattle.wire.proofs.Pieces.{filling_start, filling_next, filling_last}
use Rattle.std.specs.Prelude.{nat_lt, Option as Answer, Some, None}
use Rattle.std.specs.Char.{digit_value}
use Rattle.std.specs.Option.{SomeIff}
use Rattle.wire.specs.Answer.{maybe, value_of}
use Rattle.wire.proofs.Laws.{by_test}
use mathlib.Core.Logic.{◌⊎◌, inl, inr, ⊎_elim}
use Rattle.lsn.specs.Hex.{digit_of, value_from, hex_part}
use Rattle.lsn.specs.Position.{display_of}

-- ---- one digit: the library's value, where it is below 16, is the definition's

Digit : ℕ → Type 0
Digit c = ((digit_value c < 16) × (digit_of c ≡ some (digit_value c))) ⊎ ((16 ≤ digit_value c) × (digit_of c ≡ none))

digit_cases : (c : ℕ) → Digit c
unfolding Digit digit_of
digit_cases c =
    by_test (nat_lt c 48)
    (λ t. let h : c < 48 = ltb-true c 48 t in inr (simp (lt-ltb c 48 (omega arith)) (omega arith), simp (lt-leb 48 c (omega arith), lt-leb 65 c (omega arith), lt-leb 97 c (omega arith))))
    (λ t. let h48 : 48 ≤ c = ltb-false c 48 t in
    by_test (nat_lt c 58)
    (λ t. let h : c < 58 = ltb-true c 58 t in inl (simp (le-ltb c 48 (omega arith), lt-ltb c 58 (omega arith)) (omega arith), simp (le-ltb c 48 (omega arith), lt-ltb c 58 (omega arith), le-leb 48 c (omega arith), le-leb c 57 (omega arith))))
    (λ t. let h58 : 58 ≤ c = ltb-false c 58 t in
    by_test (nat_lt c 65)
    (λ t. let h : c < 65 = ltb-true c 65 t in inr (simp (le-ltb c 48 (omega arith), le-ltb c 58 (omega arith), lt-ltb c 65 (omega arith)) (omega arith), simp (le-leb 48 c (omega arith), lt-leb c 57 (omega arith), lt-leb 65 c (omega arith), lt-leb 97 c (omega arith))))
    (λ t. let h65 : 65 ≤ c = ltb-false c 65 t in
    by_test (nat_lt c 71)
    (λ t. let h : c < 71 = ltb-true c 71 t in inl (simp (le-ltb c 48 (omega arith), le-ltb c 58 (omega arith), le-ltb c 65 (omega arith), lt-ltb c 91 (omega arith)) (omega arith), simp (le-ltb c 48 (omega arith), le-ltb c 58 (omega arith), le-ltb c 65 (omega arith), lt-ltb c 91 (omega arith), le-leb 48 c (omega arith), lt-leb c 57 (omega arith), le-leb 65 c (omega arith), le-leb c 70 (omega arith))))
    (λ t. let h71 : 71 ≤ c = ltb-false c 71 t in
    by_test (nat_lt c 91)
    (λ t. let h : c < 91 = ltb-true c 91 t in inr (simp (le-ltb c 48 (omega arith), le-ltb c 58 (omega arith), le-ltb c 65 (omega arith), lt-ltb c 91 (omega arith)) (omega arith), simp (le-leb 48 c (omega arith), lt-leb c 57 (omega arith), le-leb 65 c (omega arith), lt-leb c 70 (omega arith), lt-leb 97 c (omega arith))))
    (λ t. let h91 : 91 ≤ c = ltb-false c 91 t in
    by_test (nat_lt c 97)
    (λ t. let h : c < 97 = ltb-true c 97 t in inr (simp (le-ltb c 48 (omega arith), le-ltb c 58 (omega arith), le-ltb c 65 (omega arith), le-ltb c 91 (omega arith), lt-ltb c 97 (omega arith)) (omega arith), simp (le-leb 48 c (omega arith), lt-leb c 57 (omega arith), le-leb 65 c (omega arith), lt-leb c 70 (omega arith), lt-leb 97 c (omega arith))))
    (λ t. let h97 : 97 ≤ c = ltb-false c 97 t in
    by_test (nat_lt c 103)
    (λ t. let h : c < 103 = ltb-true c 103 t in inl (simp (le-ltb c 48 (omega arith), le-ltb c 58 (omega arith), le-ltb c 65 (omega arith), le-ltb c 91 (omega arith), le-ltb c 97 (omega arith), lt-ltb c 123 (omega arith)) (omega arith), simp (le-ltb c 48 (omega arith), le-ltb c 58 (omega arith), le-ltb c 65 (omega arith), le-ltb c 91 (omega arith), le-ltb c 97 (omega arith), lt-ltb c 123 (omega arith), le-leb 48 c (omega arith), lt-leb c 57 (omega arith), le-leb 65 c (omega arith), lt-leb c 70 (omega arith), le-leb 97 c (omega arith), le-leb c 102 (omega arith))))
    (λ t. let h103 : 103 ≤ c = ltb-false c 103 t in
    by_test (nat_lt c 123)
    (λ t. let h : c < 123 = ltb-true c 123 t in inr (simp (le-ltb c 48 (omega arith), le-ltb c 58 (omega arith), le-ltb c 65 (omega arith), le-ltb c 91 (omega arith), le-ltb c 97 (omega arith), lt-ltb c 123 (omega arith)) (omega arith), simp (le-leb 48 c (omega arith), lt-leb c 57 (omega arith), le-leb 65 c (omega arith), lt-leb c 70 (omega arith), le-leb 97 c (omega arith), lt-leb c 102 (omega arith))))
    (λ t. let h123 : 123 ≤ c = ltb-false c 123 t in
    inr (simp (le-ltb c 48 (omega arith), le-ltb c 58 (omega arith), le-ltb c 65 (omega arith), le-ltb c 91 (omega arith), le-ltb c 97 (omega arith), le-ltb c 123 (omega arith)) (omega arith), simp (le-leb 48 c (omega arith), lt-leb c 57 (omega arith), le-leb 65 c (omega arith), lt-leb c 70 (omega arith), le-leb 97 c (omega arith), lt-leb c 102 (omega arith)))))))))))

pub digit_read : (c : ℕ) (r : Answer ℕ) → SomeIff r (digit_value c < 16) (digit_value c) → (maybe r ≡ digit_of c) × (value_of r < 16)
unfolding Digit
digit_read c None h =
    ⊎_elim
    (λ d. absurd (h d.0))
    (λ n. (sym n.1, omega arith))
    (digit_cases c)
digit_read c (Some x) h =
    ⊎_elim
    (λ d. (ap some h.1 ∙ sym d.1, rw h.1 h.0))
    (λ n. absurd (omega (arith, h.0, n.0)))
    (digit_cases c)

-- ---- reading

module _ (s : List ℕ) (i v : ℕ) (h : i < length s) where
  pub value_bad : digit_of (get_or s i 0) ≡ none → value_from v (drop i s) ≡ none
  unfolding value_from
  value_bad n = rw (drop-cons s i 0 h, n)

  pub value_turn : (d : ℕ) → digit_of (get_or s i 0) ≡ some d → value_from v (drop i s) ≡ value_from (v * 16 + d) (drop (i + 1) s)
  unfolding value_from
  value_turn d n = rw (drop-cons s i 0 h, n, add-one)

-- a part's digits are read to its end
pub value_end : (s : List ℕ) (i v : ℕ) → length s ≤ i → value_from v (drop i s) ≡ some v
unfolding value_from
value_end s i v h = rw (drop_of_length-le s h)

-- ---- one part

pub part_empty : (s : List ℕ) → length s ≡ 0 → none ≡ hex_part s
unfolding hex_part
part_empty s h = rw h

pub part_long : (s : List ℕ) → 8 < length s → none ≡ hex_part s
unfolding hex_part
part_long s h = let k : 1 ≤ length s = omega arith in simp (le-leb _ _ k, lt-leb _ _ h)

pub part_digits : (s : List ℕ) → 1 ≤ length s → length s ≤ 8 → value_from 0 s ≡ hex_part s
unfolding hex_part
part_digits s h k = simp (le-leb _ _ h, le-leb _ _ k)

-- ---- sizes

-- a digit more
pub next_below : (v d i : ℕ) → v < 16 ^ i → d < 16 → v * 16 + d < 16 ^ (i + 1)
next_below v d i h k = rw (add-one, pow-suc) (omega arith)

-- up to eight digits
pub power_below : (i n : ℕ) → i ≤ n → 16 ^ i ≤ 16 ^ n
power_below i n h = let p : 0 < 16 = omega arith in pow-le-pow_right p h

-- ---- Display

pub length_display : (v : ℕ) → length (display_of v) ≡ length (hex_text (v / 2 ^ 32)) + 1 + length (hex_text (v % 2 ^ 32))
unfolding display_of
length_display v = simp length-append (omega arith)

-- the three writes of Display
pub displayed : (d : List ℕ) (to v : ℕ) {d₁ d₂ d₃ : List ℕ} {r₁ r₂ r₃ : ℕ} → to + length (display_of v) ≤ length d
    → (r₁, d₁) ≡ placed d to (hex_text (v / 2 ^ 32)) → (r₂, d₂) ≡ placed d₁ r₁ (47 ∷ []) → (r₃, d₃) ≡ placed d₂ r₂ (hex_text (v % 2 ^ 32)) → (r₃, d₃) ≡ placed d to (display_of v)
unfolding display_of
displayed d to v h p q r = filling_last h (filling_next h (47 ∷ []) (filling_next h (hex_text (v / 2 ^ 32)) (filling_start refl) p) q) r
