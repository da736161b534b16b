-- Cases and laws of numbers and bytes as texts, in plain characters, and readers of such texts: SCOPE 11.4.
use Rattle.std.specs.Prelude.{◌≡◌, true, List, [], ◌∷◌, ℕ, ◌+◌, ◌*◌, ◌-◌, ◌<◌, ◌^◌, pos, negsuc, ltb}
use Rattle.std.proofs.Math.Pow.{are_bytes}
use Rattle.wire.specs.Bytes.{pick}
use Rattle.text.specs.Numeral.{hex_text, decimal_text, signed_text, hex_bytes}

-- the number that decimal digits spell after acc, each digit by its distance from `0`
unfoldable pub decimal_from : ℕ → List ℕ → ℕ
decimal_from acc [] = acc
decimal_from acc (c ∷ s) = decimal_from (acc * 10 + (c - 48)) s

-- the value of a digit, `0` to `9` or `a` to `f`
abbrev pub lower_value : ℕ → ℕ
lower_value c = pick (ltb c 58) (c - 48) (c - 87)

-- the bytes that pairs of digits spell
unfoldable pub pairs_read : List ℕ → List ℕ
pairs_read [] = []
pairs_read (a ∷ []) = []
pairs_read (a ∷ b ∷ s) = (lower_value a * 16 + lower_value b) ∷ pairs_read s

pub record TextLaws : Type 0 where
  -- every number's text spells the number
  pub decimal_spells : (v : ℕ) → v < 10 ^ 20 → decimal_from 0 (decimal_text v) ≡ v
  -- every byte string's text spells the bytes
  pub bytes_spell : (s : List ℕ) → are_bytes s ≡ true → pairs_read (hex_bytes s) ≡ s

pub record TextCases : Type 0 where
  pub decimal_zero : decimal_text 0 ≡ 48 ∷ []
  pub decimal_nine : decimal_text 9 ≡ 57 ∷ []
  pub decimal_ten : decimal_text 10 ≡ 49 ∷ 48 ∷ []
  pub decimal_many : decimal_text 1234567890 ≡ 49 ∷ 50 ∷ 51 ∷ 52 ∷ 53 ∷ 54 ∷ 55 ∷ 56 ∷ 57 ∷ 48 ∷ []
  pub decimal_largest : decimal_text 18446744073709551615 ≡ 49 ∷ 56 ∷ 52 ∷ 52 ∷ 54 ∷ 55 ∷ 52 ∷ 52 ∷ 48 ∷ 55 ∷ 51 ∷ 55 ∷ 48 ∷ 57 ∷ 53 ∷ 53 ∷ 49 ∷ 54
      ∷ 49 ∷ 53 ∷ []
  pub signed_positive : signed_text (pos 7) ≡ 55 ∷ []
  pub signed_minus_one : signed_text (negsuc 0) ≡ 45 ∷ 49 ∷ []
  pub signed_smallest : signed_text (negsuc 9223372036854775807) ≡ 45 ∷ 57 ∷ 50 ∷ 50 ∷ 51 ∷ 51 ∷ 55 ∷ 50 ∷ 48 ∷ 51 ∷ 54 ∷ 56 ∷ 53 ∷ 52 ∷ 55 ∷ 55 ∷ 53
      ∷ 56 ∷ 48 ∷ 56 ∷ []
  pub hex_zero : hex_text 0 ≡ 48 ∷ []
  pub hex_upper : hex_text 0xABCDEF ≡ 65 ∷ 66 ∷ 67 ∷ 68 ∷ 69 ∷ 70 ∷ []
  pub hex_sixteen : hex_text 16 ≡ 49 ∷ 48 ∷ []
  pub bytes_none : hex_bytes [] ≡ []
  pub bytes_low : hex_bytes (0x0A ∷ 0xF9 ∷ 0 ∷ []) ≡ 48 ∷ 97 ∷ 102 ∷ 57 ∷ 48 ∷ 48 ∷ []
