-- Rows and a query byte by byte, computed of the definitions. SCOPE 3.10, 3.11.
use Rattle.std.specs.Prelude.{◌≡◌, refl, List, [], ◌∷◌, ℕ, replicate}
use Prim.Native.Char.{code}
use Rattle.wire.specs.Bytes.{be, be_from, put, copied}
use Rattle.wire.specs.Field.{field_at}
use Rattle.query.specs.DataRow.{column_at, columns_from, columns_of, count_of, nth, column_of}
use Rattle.query.specs.Fold.{Said, fresh, message_of}

-- two columns: a null and the value "A"
abbrev pub two_columns : List ℕ
two_columns = 0 ∷ 2 ∷ 0xFF ∷ 0xFF ∷ 0xFF ∷ 0xFF ∷ 0 ∷ 0 ∷ 0 ∷ 1 ∷ 0x41 ∷ []

-- two columns, of which the second is cut
abbrev pub cut_data_row : List ℕ
cut_data_row = 0 ∷ 2 ∷ 0xFF ∷ 0xFF ∷ 0xFF ∷ 0xFF ∷ 0 ∷ 0 ∷ 0 ∷ 2 ∷ 0x41 ∷ []

-- an error of 13 bytes: the message "ABCDEF" and the code "42"
abbrev pub an_error : List ℕ
an_error = code "M" ∷ 0x41 ∷ 0x42 ∷ 0x43 ∷ 0x44 ∷ 0x45 ∷ 0x46 ∷ 0 ∷ code "C" ∷ 0x34 ∷ 0x32 ∷ 0 ∷ 0 ∷ []

-- what `Z` answers after that error, with a buffer of so many bytes
abbrev pub after_error : ℕ → Said
after_error room = (message_of (message_of fresh (code "E") an_error (replicate room 0)).0 (code "Z") (code "I" ∷ []) []).1

pub record Cases : Type 0 where
  pub count : count_of (columns_of two_columns) ≡ (0, 2)
  pub null : column_of (columns_of two_columns) 0 ≡ (0, 1, 0, 0)
  pub value : column_of (columns_of two_columns) 1 ≡ (0, 2, 10, 1)
  pub absent : column_of (columns_of two_columns) 2 ≡ (0, 0, 0, 0)
  -- a negative number of columns is none
  pub negative : count_of (columns_of (0xFF ∷ 0xFF ∷ [])) ≡ (0, 0)
  -- -2 says null as -1 does
  pub other_null : column_of (columns_of (0 ∷ 1 ∷ 0xFF ∷ 0xFF ∷ 0xFF ∷ 0xFE ∷ [])) 0 ≡ (0, 1, 0, 0)
  -- 20: fewer than 2 bytes, a length that is cut, a value that is cut, for the row and each of its columns
  pub no_count : count_of (columns_of (0 ∷ [])) ≡ (20, 0)
  pub length_cut : count_of (columns_of (0 ∷ 1 ∷ 0 ∷ 0 ∷ 0 ∷ [])) ≡ (20, 0)
  pub value_cut : count_of (columns_of cut_data_row) ≡ (20, 0)
  pub first_refused : column_of (columns_of cut_data_row) 0 ≡ (20, 0, 0, 0)
  pub past_refused : column_of (columns_of cut_data_row) 2 ≡ (20, 0, 0, 0)
  -- an error of 13 bytes in a buffer of 4 is answered as 4 of 13, in one of 20 as 13 of 13
  pub cut_error : after_error 4 ≡ Said.failed 4 13
  pub whole_error : after_error 20 ≡ Said.failed 13 13
  -- a malformed row ends the query with 20
  pub bad_row : (message_of fresh (code "D") cut_data_row []).1 ≡ Said.refused 20
  -- CommandComplete, a notice, a parameter's value: skipped
  pub skipped : (message_of fresh (code "C") [] []).1 ≡ Said.more

-- each by computing the definitions
pub cases : Cases
unfolding be be_from field_at put copied column_at columns_from columns_of nth message_of
cases =
    record {
      count = refl;
      null = refl;
      value = refl;
      absent = refl;
      negative = refl;
      other_null = refl;
      no_count = refl;
      length_cut = refl;
      value_cut = refl;
      first_refused = refl;
      past_refused = refl;
      cut_error = refl;
      whole_error = refl;
      bad_row = refl;
      skipped = refl;
    }
