-- What data say, byte by byte: the smallest data of each refusal, and of each message what is read. SCOPE 3.13.
use Rattle.std.specs.Prelude.{◌≡◌, List, [], ◌∷◌, ℕ, negsuc}
use Prim.Native.Char.{code}
use Rattle.rows.specs.Layout.{got, refused}
use Rattle.rows.specs.Rows.{null, unchanged, text, binary, described, relation, type, origin, insert, update, update_from, delete, truncate}
use Rattle.rows.specs.Rows.{row, no_row, refused_by, row_said}
use Rattle.rows.specs.Head.{head, update_from_head, answer_of, column_at, identifier_at}
use Rattle.rows.specs.declared.Which.TheVariants.{Key, Old}

-- an Insert, an Update, a Delete of relation 1 up to its tuple's letter
abbrev pub of_one : ℕ → List ℕ → List ℕ
of_one letter rest = letter ∷ 0 ∷ 0 ∷ 0 ∷ 1 ∷ rest

-- four columns, one of each kind, and a surplus
abbrev pub an_insert : List ℕ
an_insert = of_one (code "I") (code "N" ∷ 0 ∷ 4 ∷ code "n" ∷ code "u" ∷ code "t" ∷ 0 ∷ 0 ∷ 0 ∷ 1 ∷ 0x41 ∷ code "b" ∷ 0 ∷ 0 ∷ 0 ∷ 0 ∷ 9 ∷ [])

-- an old tuple of a null, a new one of an unchanged column
abbrev pub an_update : List ℕ
an_update = of_one (code "U") (code "O" ∷ 0 ∷ 1 ∷ code "n" ∷ code "N" ∷ 0 ∷ 1 ∷ code "u" ∷ [])

-- relation 5, "p", "qr", with one column: flags 0xFE, "c", type 0x17, type modifier -1
abbrev pub a_relation : List ℕ
a_relation =
    code "R" ∷ 0 ∷ 0 ∷ 0 ∷ 5 ∷ 0x70 ∷ 0 ∷ 0x71 ∷ 0x72 ∷ 0 ∷ 0x7A ∷ 0 ∷ 1
    ∷ 0xFE ∷ 0x63 ∷ 0 ∷ 0 ∷ 0 ∷ 0 ∷ 0x17 ∷ 0xFF ∷ 0xFF ∷ 0xFF ∷ 0xFF ∷ []

-- ---- no row

-- the three letters of boundaries, also of data that are cut
pub record NoRowCases : Type 0 where
  pub begin : row_said (0x42 ∷ []) ≡ no_row
  pub commit : row_said (0x43 ∷ 7 ∷ []) ≡ no_row
  pub message : row_said (0x4D ∷ []) ≡ no_row

-- ---- 26 and 27, the first in the order of the fields

-- the smallest data that part one refusal from the other
pub record RefusalCases : Type 0 where
  pub no_data : row_said [] ≡ refused_by 26
  pub stream_start : row_said (0x53 ∷ []) ≡ refused_by 27
  pub zero : row_said (0 ∷ []) ≡ refused_by 27
  pub begin_prepare : row_said (0x62 ∷ []) ≡ refused_by 27
  -- a letter's place that is cut off, and a wrong letter
  pub letter_cut : row_said (of_one (code "I") []) ≡ refused_by 26
  pub letter_wrong : row_said (of_one (code "I") (code "K" ∷ [])) ≡ refused_by 27
  -- the wrong letter stands before the cut
  pub column_wrong : row_said (of_one (code "I") (code "N" ∷ 0 ∷ 2 ∷ 0x78 ∷ [])) ≡ refused_by 27
  -- the negative count stands before the wrong letter
  pub count_negative : row_said (of_one (code "I") (code "N" ∷ 0xFF ∷ 0xFF ∷ 0x78 ∷ [])) ≡ refused_by 26
  -- a length of -1 is no null here
  pub length_negative : row_said (of_one (code "I") (code "N" ∷ 0 ∷ 1 ∷ code "t" ∷ 0xFF ∷ 0xFF ∷ 0xFF ∷ 0xFF ∷ [])) ≡ refused_by 26
  pub value_cut : row_said (of_one (code "I") (code "N" ∷ 0 ∷ 1 ∷ code "b" ∷ 0 ∷ 0 ∷ 0 ∷ 2 ∷ 0x41 ∷ [])) ≡ refused_by 26
  pub delete_new : row_said (of_one (code "D") (code "N" ∷ 0 ∷ 0 ∷ [])) ≡ refused_by 27
  pub update_without_new : row_said (of_one (code "U") (code "K" ∷ 0 ∷ 0 ∷ [])) ≡ refused_by 26
  pub update_key_and_old : row_said (of_one (code "U") (code "K" ∷ 0 ∷ 0 ∷ code "O" ∷ 0 ∷ 0 ∷ [])) ≡ refused_by 27
  pub name_unterminated : row_said (code "Y" ∷ 0 ∷ 0 ∷ 0 ∷ 1 ∷ 0x61 ∷ []) ≡ refused_by 26
  pub many_relations : row_said (code "T" ∷ 0x7F ∷ 0xFF ∷ 0xFF ∷ 0xFF ∷ 0 ∷ []) ≡ refused_by 26
  pub relations_negative : row_said (code "T" ∷ 0x80 ∷ 0 ∷ 0 ∷ 0 ∷ 0 ∷ []) ≡ refused_by 26

-- ---- rows

-- one row of each message, and readers at foreign places
pub record RowCases : Type 0 where
  -- every kind of column, and a surplus
  pub an_insert_lem : row_said an_insert
      ≡ row (insert 1 (null ∷ unchanged ∷ text (0x41 ∷ []) ∷ binary [] ∷ []))
  -- the old tuple is the old one, the new one the new one
  pub an_update_lem : row_said an_update ≡ row (update_from 1 Old (null ∷ []) (unchanged ∷ []))
  pub its_head : answer_of (row_said an_update) ≡ head (update_from_head 1 Old (1, 8) (1, 12))
  pub new_alone : row_said (of_one (code "U") (code "N" ∷ 0 ∷ 0 ∷ [])) ≡ row (update 1 [])
  pub a_delete : row_said (of_one (code "D") (code "K" ∷ 0 ∷ 1 ∷ code "n" ∷ [])) ≡ row (delete 1 Key (null ∷ []))
  -- a count of 32 bits, options that are not judged
  pub a_truncate : row_said (code "T" ∷ 0 ∷ 0 ∷ 0 ∷ 2 ∷ 0xFF ∷ 0 ∷ 0 ∷ 0 ∷ 7 ∷ 0xFF ∷ 0xFF ∷ 0xFF ∷ 0xFF ∷ [])
      ≡ row (truncate 0xFF (7 ∷ 0xFFFFFFFF ∷ []))
  pub no_relations : row_said (code "T" ∷ 0 ∷ 0 ∷ 0 ∷ 0 ∷ 3 ∷ []) ≡ row (truncate 3 [])
  pub an_origin : row_said (code "O" ∷ 0 ∷ 0 ∷ 0 ∷ 0 ∷ 0 ∷ 0 ∷ 0 ∷ 9 ∷ 0x61 ∷ 0 ∷ []) ≡ row (origin 9 (0x61 ∷ []))
  pub a_type : row_said (code "Y" ∷ 0xFF ∷ 0xFF ∷ 0xFF ∷ 0xFF ∷ 0 ∷ 0x61 ∷ 0 ∷ []) ≡ row (type 0xFFFFFFFF [] (0x61 ∷ []))
  -- a replica identity that is not judged, flags that are not judged, a type modifier of -1
  pub a_relation_lem : row_said a_relation
      ≡ row (relation 5 (0x70 ∷ []) (0x71 ∷ 0x72 ∷ []) 0x7A (described 0xFE (0x63 ∷ []) 0x17 (negsuc 0) ∷ []))
  -- a foreign place: a letter that is none, and the end of the data
  pub inside_a_value : column_at (0 ∷ 0x78 ∷ []) 1 ≡ refused 27
  pub past_the_end : identifier_at (0 ∷ 0 ∷ 0 ∷ 7 ∷ []) 9 ≡ refused 26
  pub column_there : column_at (0 ∷ code "n" ∷ []) 1 ≡ got null 2
