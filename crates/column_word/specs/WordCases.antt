-- Words of columns, with their 64 bits written in hexadecimal places: document 02, wish 12.
use Rattle.std.specs.Prelude.{ℕ, ◌≡◌, refl, Bool, true, false}
use Rattle.column_word.specs.declared.Column.{Column}
use Rattle.column_word.specs.Bits.{packed, bits, unpacked}
use Rattle.column_word.specs.Word.{word_of, column_in}

-- a column by its four values
abbrev column : Bool → ℕ → ℕ → ℕ → Column
column k t l a = record { key = k; type_oid = t; name_len = l; name_at = a }

pub record WordCases : Type 0 where
  -- each field alone, at its lowest bit and at its largest
  pub key : word_of (column true 0 0 0) ≡ 9223372036854775808
  pub lowest_type : word_of (column false 1 0 0) ≡ 2147483648
  pub largest_type : word_of (column false 4294967295 0 0) ≡ 9223372034707292160
  pub lowest_length : word_of (column false 0 1 0) ≡ 16777216
  pub largest_length : word_of (column false 0 63 0) ≡ 1056964608
  pub lowest_place : word_of (column false 0 0 1) ≡ 1
  pub last_place : word_of (column false 0 0 128961) ≡ 128961
  -- a key of type text (25) with a name of 4 bytes at place 63
  pub all : word_of (column true 25 4 63) ≡ 9223372090608975935
  pub read : column_in 9223372090608975935 ≡ column true 25 4 63
  -- a word of all ones
  pub ones : column_in 18446744073709551615 ≡ column true 4294967295 127 16777215

-- they hold, by computing
pub word_cases : WordCases
unfolding word_of column_in packed bits unpacked
word_cases = record {
  key = refl;
  lowest_type = refl;
  largest_type = refl;
  lowest_length = refl;
  largest_length = refl;
  lowest_place = refl;
  last_place = refl;
  all = refl;
  read = refl;
  ones = refl;
}
