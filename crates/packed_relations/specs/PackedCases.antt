-- Packed columns, stored, moved and told, on literal words and messages. Document 02, wish 12.
use Rattle.std.specs.Prelude.{◌≡◌, true, false, [], ◌∷◌}
use Rattle.rows.specs.Rows.{row_said}
use Rattle.rows.specs.RowCases.{a_relation}
use Rattle.rows.specs.Head.{refusal}
use Rattle.column_word.specs.Word.{column_in}
use Rattle.packed_relations.specs.Packed.{words_of, packed, store_word, message_of, told_of}

pub record PackedCases : Type 0 where
  -- a word of all ones: its place is behind the names
  pub ones : told_of 129024 (column_in 18446744073709551615) ≡ ((129024, 0), true, 4294967295)
  -- the last column's name, of 63 bytes: it ends with the names. With a length of 64 it is told as of 63; where less is lent it ends with that
  pub last : told_of 129024 (column_in 1057093569) ≡ ((128961, 63), false, 0)
  pub beyond : told_of 129024 (column_in 1073870785) ≡ ((128961, 63), false, 0)
  pub less_lent : told_of 128970 (column_in 1057093569) ≡ ((128961, 9), false, 0)
  -- column 1: a key of type text (25) with a name of 4 bytes at place 63
  pub text_key : (store_word 1 63 1 (0x6E ∷ 0x61 ∷ 0x6D ∷ 0x65 ∷ []) 25 (words_of (0 ∷ 0 ∷ []) [])).words ≡ 0 ∷ 9223372090608975935 ∷ []
  -- a Relation by its bytes: identifier 5, a column `c` of type 23 that is not of the key; where no byte is lent it is refused with 4
  pub held_after : (message_of (packed 0 (0 ∷ []) (0 ∷ []) (words_of (0 ∷ []) (0 ∷ 0 ∷ []))) (row_said a_relation)).1
      ≡ packed 1 (5 ∷ []) (1 ∷ []) (words_of (49408901120 ∷ []) (0x63 ∷ 0 ∷ []))
  pub no_byte : message_of (packed 0 (0 ∷ []) (0 ∷ []) (words_of (0 ∷ []) [])) (row_said a_relation)
      ≡ (refusal 4, packed 0 (0 ∷ []) (0 ∷ []) (words_of (0 ∷ []) []))
  -- a successor of one that has no columns: the name `d` of the relation behind it is moved by one byte, and its place is corrected
  pub moved_behind :
      (message_of (packed 2 (5 ∷ 6 ∷ []) (0 ∷ 1 ∷ []) (words_of (0 ∷ 0 ∷ 0 ∷ 0 ∷ 0 ∷ 0 ∷ 0 ∷ 0 ∷ 0 ∷ 0 ∷ 0 ∷ 0 ∷ 0 ∷ 0 ∷ 0 ∷ 0 ∷ 0 ∷ 0 ∷ 0 ∷ 0 ∷ 0 ∷ 0 ∷ 0 ∷ 0 ∷ 0
      ∷ 0 ∷ 0 ∷ 0 ∷ 0 ∷ 0 ∷ 0 ∷ 0 ∷ 16777216 ∷ []) (0x64 ∷ 7 ∷ 8 ∷ []))) (row_said a_relation)).1
      ≡ packed 2 (5 ∷ 6 ∷ []) (1 ∷ 1 ∷ []) (words_of (49408901120 ∷ 0 ∷ 0 ∷ 0 ∷ 0 ∷ 0 ∷ 0 ∷ 0 ∷ 0 ∷ 0 ∷ 0 ∷ 0 ∷ 0 ∷ 0 ∷ 0 ∷ 0 ∷ 0 ∷ 0 ∷ 0 ∷ 0 ∷ 0 ∷ 0 ∷ 0 ∷ 0
      ∷ 0 ∷ 0 ∷ 0 ∷ 0 ∷ 0 ∷ 0 ∷ 0 ∷ 0 ∷ 16777217 ∷ []) (0x63 ∷ 0x64 ∷ 8 ∷ []))
