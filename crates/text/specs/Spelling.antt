-- How a number is spelled, said of any text and any number and apart from what writes one: positional notation in the digits 0 to 9 and A to F, no
-- zero before another digit, one digit for zero. SCOPE 2.2, 11.4.
use Rattle.std.specs.Prelude.{◌≡◌, true, List, [], ◌∷◌, ℕ, suc, ◌+◌, ◌*◌, ◌^◌, ◌≤◌, ◌<◌, length, get_or, ℤ, pos, negsuc}
use Prim.Native.Char.{code}
use Rattle.std.proofs.Math.Pow.{are_bytes}
use Rattle.text.specs.Numeral.{hex_text, decimal_text, signed_text, hex_bytes}

-- the digits by their values, in upper case and in lower case
abbrev pub upper_digits : List ℕ
upper_digits =
    code "0" ∷ code "1" ∷ code "2" ∷ code "3" ∷ code "4" ∷ code "5" ∷ code "6" ∷ code "7"
    ∷ code "8" ∷ code "9" ∷ code "A" ∷ code "B" ∷ code "C" ∷ code "D" ∷ code "E" ∷ code "F" ∷ []

abbrev pub lower_digits : List ℕ
lower_digits =
    code "0" ∷ code "1" ∷ code "2" ∷ code "3" ∷ code "4" ∷ code "5" ∷ code "6" ∷ code "7"
    ∷ code "8" ∷ code "9" ∷ code "a" ∷ code "b" ∷ code "c" ∷ code "d" ∷ code "e" ∷ code "f" ∷ []

-- s has digits of the base alone, and v is their value: each counts as often as the base to the power of how many stand after it
abbrev pub Value : ℕ → List ℕ → ℕ → Type 0
Value base [] v = v ≡ 0
Value base (c ∷ s) v = (d : ℕ) × (w : ℕ) × (d < base) × (c ≡ get_or upper_digits d 0) × Value base s w × (v ≡ d * base ^ length s + w)

-- there is a digit, and no zero stands before another digit
abbrev pub Unpadded : List ℕ → Type 0
Unpadded [] = ⊥
Unpadded (c ∷ []) = Unit
Unpadded (c ∷ d ∷ s) = c ≡ code "0" → ⊥

-- s spells v to the base
pub record SpelledTo (base : ℕ) (s : List ℕ) (v : ℕ) : Type 0 where
  pub unpadded : Unpadded s
  pub value : Value base s v

-- s spells a signed number in decimal: a minus before a negative one
abbrev pub SignedSpelled : List ℕ → ℤ → Type 0
SignedSpelled s (pos n) = SpelledTo 10 s n
SignedSpelled s (negsuc n) = (t : List ℕ) × (s ≡ code "-" ∷ t) × SpelledTo 10 t (suc n)

-- two digits in lower case for each byte
abbrev pub BytesSpelled : List ℕ → List ℕ → Type 0
BytesSpelled [] [] = Unit
BytesSpelled [] (b ∷ s) = ⊥
BytesSpelled (x ∷ []) s = ⊥
BytesSpelled (x ∷ y ∷ t) [] = ⊥
BytesSpelled (x ∷ y ∷ t) (b ∷ s) =
    (hi : ℕ) × (lo : ℕ) × (hi < 16) × (lo < 16) × (x ≡ get_or lower_digits hi 0) × (y ≡ get_or lower_digits lo 0) × (b ≡ hi * 16 + lo) × BytesSpelled t s

pub record SpellingLaws : Type 0 where
  -- every number is spelled, to base 10 and to base 16
  pub decimal : (v : ℕ) → v < 10 ^ 20 → SpelledTo 10 (decimal_text v) v
  pub hexadecimal : (v : ℕ) → v < 16 ^ 20 → SpelledTo 16 (hex_text v) v
  -- a number has one spelling, and a spelling one number
  pub one_spelling : (base : ℕ) (s t : List ℕ) (v : ℕ) → 2 ≤ base → base ≤ 16 → SpelledTo base s v → SpelledTo base t v → s ≡ t
  pub one_number : (base : ℕ) (s : List ℕ) (v w : ℕ) → base ≤ 16 → SpelledTo base s v → SpelledTo base s w → v ≡ w
  -- every signed number of 64 bits
  pub signed : (n : ℕ) → n < 10 ^ 20 → SignedSpelled (signed_text (pos n)) (pos n)
  pub signed_negative : (n : ℕ) → suc n < 10 ^ 20 → SignedSpelled (signed_text (negsuc n)) (negsuc n)
  -- every byte string
  pub bytes : (s : List ℕ) → are_bytes s ≡ true → BytesSpelled (hex_bytes s) s
