-- What PostgreSQL's documentation says of a position's text (chapter "Data Types", "pg_lsn Type"), apart from the reader: a position is a 64-bit
-- integer, and its text is "two hexadecimal numbers of up to 8 digits each, separated by a slash". SCOPE 2.1; 02, wish 6.
use Rattle.std.specs.Prelude.{◌≡◌, List, [], ◌∷◌, ◌++◌, ◌⊎◌, ℕ, ◌+◌, ◌*◌, ◌/◌, ◌%◌, ◌^◌, ◌≤◌, ◌<◌, length}
use Rattle.text.specs.Numeral.{glyph_of, lower_of}
use Rattle.lsn.specs.Position.{position_of}

-- c is the digit of the value d, in upper or in lower case
abbrev pub Digit : ℕ → ℕ → Type 0
Digit c d = (d < 16) × ((c ≡ glyph_of d) ⊎ (c ≡ lower_of d))

-- s has digits alone, and v is their value: each counts as often as 16 to the power of how many stand after it
abbrev pub Digits : List ℕ → ℕ → Type 0
Digits [] v = v ≡ 0
Digits (c ∷ s) v = (d : ℕ) × (w : ℕ) × Digit c d × Digits s w × (v ≡ d * 16 ^ length s + w)

-- s is a hexadecimal number of 1 to 8 digits, of the value v
abbrev pub Number : List ℕ → ℕ → Type 0
Number s v = (1 ≤ length s) × (length s ≤ 8) × Digits s v

-- s spells the position p: two such numbers, a slash between them
pub record Spells (s : List ℕ) (p : ℕ) : Type 0 where
  pub high : List ℕ
  pub low : List ℕ
  pub hi : ℕ
  pub lo : ℕ
  pub text : s ≡ high ++ (47 ∷ low)
  pub high_number : Number high hi
  pub low_number : Number low lo
  pub position : p ≡ hi * 2 ^ 32 + lo

-- no byte is a slash
abbrev pub NoSlash : List ℕ → Type 0
NoSlash [] = Unit
NoSlash (c ∷ s) = (c ≡ 47 → ⊥) × NoSlash s

pub record SpelledLaws : Type 0 where
  -- every text that spells a position is accepted, with that position
  pub accepted : (s : List ℕ) (p : ℕ) → Spells s p → position_of s ≡ (0, p)
  -- every text that is accepted spells its position
  pub spelled : (s : List ℕ) (p : ℕ) → position_of s ≡ (0, p) → Spells s p
  -- the position has 64 bits, its halves are the two numbers, and the text has at most 17 bytes
  pub halves : (s : List ℕ) (p : ℕ) → (x : Spells s p) → (p < 2 ^ 64) × (p / 2 ^ 32 ≡ x.hi) × (p % 2 ^ 32 ≡ x.lo) × (length s ≤ 17)
  -- 22: no slash
  pub no_slash : (s : List ℕ) → NoSlash s → position_of s ≡ (22, 0)
  -- 23: no number before the first slash
  pub no_high : (high low : List ℕ) → NoSlash high → ((v : ℕ) → Number high v → ⊥) → position_of (high ++ (47 ∷ low)) ≡ (23, 0)
  -- 24: a number before the slash, and none after it
  pub no_low : (high low : List ℕ) (hi : ℕ) → Number high hi → ((v : ℕ) → Number low v → ⊥) → position_of (high ++ (47 ∷ low)) ≡ (24, 0)
