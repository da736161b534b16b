-- Numbers as texts: positional notation without leading zeros, and bytes as pairs of digits. SCOPE 2.2, 11.4.
use Rattle.std.specs.Prelude.{ℕ, zero, suc, ◌+◌, ◌/◌, ◌%◌, List, [], ◌∷◌, ◌++◌, ℤ, pos, negsuc, ltb}
use Rattle.wire.specs.Bytes.{pick}

-- the digit of a value below 16, where a value from 10 on has the letter that stands so far behind a place
abbrev pub digit_behind : ℕ → ℕ → ℕ
digit_behind place d = pick (ltb d 10) (48 + d) (place + d)

-- the digit of a value below 16, upper case
abbrev pub glyph_of : ℕ → ℕ
glyph_of d = digit_behind 55 d

-- the digits of v to a base, the highest first, at most n of them
unfoldable pub numeral : ℕ → ℕ → ℕ → List ℕ
numeral base zero v = []
numeral base (suc n) v = pick (ltb v base) (glyph_of v ∷ []) (numeral base n (v / base) ++ (glyph_of (v % base) ∷ []))

-- a number of 64 bits to base 16, upper case; 20 digits are enough
abbrev pub hex_text : ℕ → List ℕ
hex_text v = numeral 16 20 v

-- a number of 64 bits to base 10; 20 digits are enough
abbrev pub decimal_text : ℕ → List ℕ
decimal_text v = numeral 10 20 v

-- a signed number of 64 bits, to base 10
abbrev pub signed_text : ℤ → List ℕ
signed_text (pos n) = decimal_text n
signed_text (negsuc n) = 45 ∷ decimal_text (n + 1)

-- the digit of a value below 16, lower case
abbrev pub lower_of : ℕ → ℕ
lower_of d = digit_behind 87 d

-- each byte as two digits, lower case
unfoldable pub hex_bytes : List ℕ → List ℕ
hex_bytes [] = []
hex_bytes (b ∷ s) = lower_of (b / 16) ∷ lower_of (b % 16) ∷ hex_bytes s
