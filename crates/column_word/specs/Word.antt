-- A column in one word of 64 bits: document 02, wish 12.
use Rattle.std.specs.Prelude.{ℕ, ◌+◌, ◌*◌, ◌%◌, ◌^◌, ◌<◌, ◌≡◌, get_or, Bool, true, false, List, [], ◌∷◌, eqb}
use Rattle.column_word.specs.Bits.{packed, unpacked}
use Rattle.column_word.specs.declared.Column.{Column}

-- the widths, most significant first: key flag, type, length of the name, place of the name
abbrev pub widths : List ℕ
widths = 1 ∷ 32 ∷ 7 ∷ 24 ∷ []

-- a flag as a bit
abbrev pub key_bit : Bool → ℕ
key_bit true = 1
key_bit false = 0

-- the word of a column; of a length and a place the bits that their fields have
unfoldable pub word_of : Column → ℕ
word_of c = packed widths (key_bit c.key ∷ c.type_oid ∷ c.name_len % 2 ^ 7 ∷ c.name_at % 2 ^ 24 ∷ [])

-- the column that four fields say
abbrev pub column_said : List ℕ → Column
column_said fields =
    record { key = eqb (get_or fields 0 0) 1; type_oid = get_or fields 1 0; name_len = get_or fields 2 0; name_at = get_or fields 3 0 }

-- the column of a word
unfoldable pub column_in : ℕ → Column
column_in w = column_said (unpacked widths w)

-- what a column has in a word: its length and place have no more bits than their fields
pub record Fits (c : Column) : Type 0 where
  pub oid : c.type_oid < 2 ^ 32
  pub len : c.name_len < 2 ^ 7
  pub place : c.name_at < 2 ^ 24

-- A word of 64 bits and the column in it say the same.
pub record Words : Type 0 where
  pub column : (c : Column) → Fits c → column_in (word_of c) ≡ c
  pub word : (w : ℕ) → w < 2 ^ 64 → word_of (column_in w) ≡ w

-- Where each field stands: the place in bits 0 to 23, the length in 24 to 30, the type in 31 to 62, and the key flag in bit 63.
pub record Places : Type 0 where
  pub key : (oid len place : ℕ) → oid < 2 ^ 32 → len < 2 ^ 7 → place < 2 ^ 24
      → word_of (record { key = true; type_oid = oid; name_len = len; name_at = place }) ≡ 2 ^ 63 + oid * 2 ^ 31 + len * 2 ^ 24 + place
  pub no_key : (oid len place : ℕ) → oid < 2 ^ 32 → len < 2 ^ 7 → place < 2 ^ 24
      → word_of (record { key = false; type_oid = oid; name_len = len; name_at = place }) ≡ oid * 2 ^ 31 + len * 2 ^ 24 + place
  -- of a length and a place that do not fit, the lowest bits stand there
  pub lowest : (key : Bool) (oid len place : ℕ)
      → word_of (record { key = key; type_oid = oid; name_len = len; name_at = place })
      ≡ word_of (record { key = key; type_oid = oid; name_len = len % 2 ^ 7; name_at = place % 2 ^ 24 })
