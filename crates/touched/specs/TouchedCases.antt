-- Calls byte by byte: the smallest inputs that part right from wrong. 02, wish 10.
use Rattle.std.specs.Prelude.{◌≡◌, true, false, List, [], ◌∷◌, ◌++◌, ℕ, replicate}
use Prim.Native.Char.{code}
use Rattle.touched.specs.Touched.{entries_of, files, clear, begins, brings, nothing, after_of}
use Rattle.touched.specs.Bits.{bits_of, files_by}

-- a message of relation 7
abbrev pub of_seven : ℕ → List ℕ → List ℕ
of_seven letter rest = letter ∷ 0 ∷ 0 ∷ 0 ∷ 7 ∷ rest

-- an Insert of one null column, whole and with its column cut off
abbrev pub an_insert : List ℕ
an_insert = of_seven (code "I") (code "N" ∷ 0 ∷ 1 ∷ code "n" ∷ [])

abbrev pub a_cut_insert : List ℕ
a_cut_insert = of_seven (code "I") (code "N" ∷ 0 ∷ 1 ∷ [])

-- a Truncate of relations 7 and 8, and the same with its last identifier cut
abbrev pub a_truncate : List ℕ
a_truncate = code "T" ∷ 0 ∷ 0 ∷ 0 ∷ 2 ∷ 0 ∷ 0 ∷ 0 ∷ 0 ∷ 7 ∷ 0 ∷ 0 ∷ 0 ∷ 8 ∷ []

abbrev pub a_cut_truncate : List ℕ
a_cut_truncate = code "T" ∷ 0 ∷ 0 ∷ 0 ∷ 2 ∷ 0 ∷ 0 ∷ 0 ∷ 0 ∷ 7 ∷ 0 ∷ 0 ∷ 0 ∷ []

-- relation 7 has file 2, and file 1 in a later entry; relation 8 has file 0
abbrev pub a_list : List (ℕ × ℕ)
a_list = entries_of (7 ∷ 8 ∷ 7 ∷ []) (2 ∷ 0 ∷ 1 ∷ [])

-- one call each
pub record TouchedCases : Type 0 where
  pub a_row : after_of a_list (brings an_insert) clear ≡ (0, files false false true false)
  pub a_cut_row : after_of a_list (brings a_cut_insert) clear ≡ (0, clear)
  pub every_relation : after_of a_list (brings a_truncate) clear ≡ (0, files true false true false)
  pub a_cut_truncate_lem : after_of a_list (brings a_cut_truncate) clear ≡ (0, clear)
  pub an_unlisted_relation : after_of (entries_of (8 ∷ []) (0 ∷ [])) (brings an_insert) clear ≡ (0, clear)
  -- a Begin clears, and what is neither a Begin nor data keeps the files, such as a Commit
  pub a_begin : after_of a_list begins (files true true true true) ≡ (0, clear)
  pub a_commit : after_of a_list nothing (files false true false true) ≡ (0, files false true false true)
  -- the file above 3 is refused though no row is there, in an entry that another one shadows, and at a Begin
  pub a_bad_file : after_of (entries_of (7 ∷ 7 ∷ []) (2 ∷ 4 ∷ [])) begins (files false true false true) ≡ (31, files false true false true)
  -- of two lists the shorter length holds: neither the identifier nor the file that is alone is an entry
  pub a_lone_file : after_of (entries_of (7 ∷ []) (2 ∷ 4 ∷ [])) (brings an_insert) clear ≡ (0, files false false true false)
  pub a_lone_identifier : after_of (entries_of (8 ∷ 7 ∷ []) (2 ∷ [])) (brings an_insert) clear ≡ (0, clear)
  -- the sixty-fourth entry is read and judged, the sixty-fifth is neither
  pub the_sixty_fourth : after_of (entries_of (replicate 63 8 ++ (7 ∷ [])) (replicate 63 0 ++ (3 ∷ []))) (brings an_insert) clear
      ≡ (0, files false false false true)
  pub the_sixty_fourth_bad : after_of (entries_of (replicate 63 8 ++ (7 ∷ [])) (replicate 63 0 ++ (4 ∷ []))) (brings an_insert) clear ≡ (31, clear)
  pub the_sixty_fifth : after_of (entries_of (replicate 64 8 ++ (7 ∷ [])) (replicate 64 0 ++ (3 ∷ []))) (brings an_insert) clear ≡ (0, clear)
  pub the_sixty_fifth_bad : after_of (entries_of (replicate 64 8 ++ (7 ∷ [])) (replicate 64 0 ++ (4 ∷ []))) (brings an_insert) clear ≡ (0, clear)

-- every message that changes rows, and those that change none
pub record MessageCases : Type 0 where
  pub an_update_lem : after_of a_list (brings (of_seven (code "U") (code "N" ∷ 0 ∷ 0 ∷ []))) clear ≡ (0, files false false true false)
  pub with_a_key : after_of a_list (brings (of_seven (code "U") (code "K" ∷ 0 ∷ 0 ∷ code "N" ∷ 0 ∷ 0 ∷ []))) clear ≡ (0, files false false true false)
  pub with_an_old_row : after_of a_list (brings (of_seven (code "U") (code "O" ∷ 0 ∷ 0 ∷ code "N" ∷ 0 ∷ 0 ∷ []))) clear
      ≡ (0, files false false true false)
  pub a_delete : after_of a_list (brings (of_seven (code "D") (code "K" ∷ 0 ∷ 0 ∷ []))) clear ≡ (0, files false false true false)
  pub of_an_old_row : after_of a_list (brings (of_seven (code "D") (code "O" ∷ 0 ∷ 0 ∷ []))) clear ≡ (0, files false false true false)
  pub an_update_without_new : after_of a_list (brings (of_seven (code "U") (code "K" ∷ 0 ∷ 0 ∷ []))) clear ≡ (0, clear)
  pub a_wrong_letter : after_of a_list (brings (of_seven (code "D") (code "N" ∷ 0 ∷ 0 ∷ []))) clear ≡ (0, clear)
  pub no_relations : after_of a_list (brings (code "T" ∷ 0 ∷ 0 ∷ 0 ∷ 0 ∷ 0 ∷ [])) clear ≡ (0, clear)
  pub a_relation_lem : after_of a_list (brings (of_seven (code "R") (0 ∷ 0 ∷ code "d" ∷ 0 ∷ 0 ∷ []))) clear ≡ (0, clear)
  pub a_type : after_of a_list (brings (of_seven (code "Y") (0 ∷ 0 ∷ []))) clear ≡ (0, clear)
  pub an_origin : after_of a_list (brings (of_seven (code "O") (0 ∷ 0 ∷ 0 ∷ 7 ∷ 0 ∷ []))) clear ≡ (0, clear)
  pub a_boundary : after_of a_list (brings (of_seven (code "C") [])) clear ≡ (0, clear)
  pub no_data : after_of a_list (brings []) clear ≡ (0, clear)

-- the lowest bit is file 0
pub record BitCases : Type 0 where
  pub file_zero : bits_of (files true false false false) ≡ 1
  pub file_one : bits_of (files false true false false) ≡ 2
  pub file_two : bits_of (files false false true false) ≡ 4
  pub file_three : bits_of (files false false false true) ≡ 8
  pub above_the_four : files_by 0xF5 ≡ files true false true false
