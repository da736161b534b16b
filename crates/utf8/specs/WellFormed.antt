-- Well-formed UTF-8: the Unicode Standard, section 3.9, Table 3-7 "Well-Formed UTF-8 Byte Sequences". SCOPE 2.6.
use Rattle.std.specs.Prelude.{ℕ, suc, Bool, false, List, [], ◌∷◌, leb}
use Rattle.wire.specs.Bytes.{pick}

-- the byte values from low to high, both ends included
pub record Range : Type 0 where
  pub low : ℕ
  pub high : ℕ

abbrev to : ℕ → ℕ → Range
to a b = record { low = a; high = b }

-- whether the byte is in the range
abbrev pub within : Range → ℕ → Bool
within r b = pick (leb r.low b) (leb b r.high) false

-- the table's rows, a range for each byte of a sequence
unfoldable pub table : List (List Range)
table =
    (to 0x00 0x7F ∷ [])
    ∷ (to 0xC2 0xDF ∷ to 0x80 0xBF ∷ [])
    ∷ (to 0xE0 0xE0 ∷ to 0xA0 0xBF ∷ to 0x80 0xBF ∷ [])
    ∷ (to 0xE1 0xEC ∷ to 0x80 0xBF ∷ to 0x80 0xBF ∷ [])
    ∷ (to 0xED 0xED ∷ to 0x80 0x9F ∷ to 0x80 0xBF ∷ [])
    ∷ (to 0xEE 0xEF ∷ to 0x80 0xBF ∷ to 0x80 0xBF ∷ [])
    ∷ (to 0xF0 0xF0 ∷ to 0x90 0xBF ∷ to 0x80 0xBF ∷ to 0x80 0xBF ∷ [])
    ∷ (to 0xF1 0xF3 ∷ to 0x80 0xBF ∷ to 0x80 0xBF ∷ to 0x80 0xBF ∷ [])
    ∷ (to 0xF4 0xF4 ∷ to 0x80 0x8F ∷ to 0x80 0xBF ∷ to 0x80 0xBF ∷ [])
    ∷ []

-- whether the row's first range has the byte
abbrev pub begins : List Range → ℕ → Bool
begins [] b = false
begins (r ∷ rs) b = within r b

-- the row that a first byte begins: the first ranges of two rows have no byte in common. None is the empty row
unfoldable pub row_of : List (List Range) → ℕ → List Range
row_of [] b = []
row_of (row ∷ rows) b = pick (begins row b) row (row_of rows b)

-- how many of the bytes at the front are in the ranges, one after the other
unfoldable pub matched : List Range → List ℕ → ℕ
matched [] s = 0
matched (r ∷ rs) [] = 0
matched (r ∷ rs) (b ∷ s) = pick (within r b) (suc (matched rs s)) 0
