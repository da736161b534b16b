-- What each call that writes a text answers and leaves, for any input and any output, and what a position's text is read as.
-- SCOPE 9.4, 9.5, 3.5.
use Rattle.std.specs.Prelude.{ℕ, ◌+◌, ◌*◌, ◌≤◌, ◌<◌, Bool, List, [], ◌∷◌, ◌++◌, ◌≡◌, ℤ, length, take, drop}
use Rattle.std.proofs.Math.Option.{some, none}
use Rattle.std.specs.Borrow.{Bor}
use Rattle.wire.specs.Find.{index_of}
use Rattle.error.specs.Inputs.{total}
use Rattle.frontend.specs.Frontend.{query, copy_done_message, terminate, status_update, startup}
use Rattle.lossy.specs.Lossy.{lossy_of}
use Rattle.lossy.specs.Marks.{marks_of}
use Rattle.lossy.specs.Stretch.{Longest}
use Rattle.lsn.specs.Hex.{hex_part}
use Rattle.lsn.specs.Position.{display_of}
use Rattle.messages.specs.ErrorText.{error_text, error_marks}
use Rattle.messages.specs.Fields.{fields_of}
use Rattle.ffi_answers.specs.Texts.{lossy_call, lossy_by_table_call, well_formed_prefix_call, error_text_call, parse_position_call, display_position_call}
use Rattle.ffi_answers.specs.Texts.{startup_call, query_call, copy_done_call, terminate_call, status_call}

-- ---- writers

-- a call with lent inputs of so many bytes together, for a text and an output: 25 where they are over 1,048,576, then 4 where the output is too
-- short, and nothing is written; else 0, the text's length, and the text over the output's front
pub record Writes (inputs : ℕ) (text out : List ℕ) (call : (ℕ × ℕ) × List ℕ) : Type 0 where
  pub over_limit : 1048576 < inputs → call ≡ ((25, 0), out)
  pub no_room : inputs ≤ 1048576 → length out < length text → call ≡ ((4, 0), out)
  pub written : inputs ≤ 1048576 → length text ≤ length out → call ≡ ((0, length text), text ++ drop (length text) out)

-- the same with a third number, how many marks the text has; refused, it is 0
pub record WritesMarked (inputs : ℕ) (text : List ℕ) (marks : ℕ) (out : List ℕ) (call : (ℕ × ℕ × ℕ) × List ℕ) : Type 0 where
  pub over_limit : 1048576 < inputs → call ≡ ((25, 0, 0), out)
  pub no_room : inputs ≤ 1048576 → length out < length text → call ≡ ((4, 0, 0), out)
  pub written : inputs ≤ 1048576 → length text ≤ length out → call ≡ ((0, length text, marks), text ++ drop (length text) out)

-- the messages that a host sends outside the stream; names and values are lent inputs, whose bytes are counted together
pub record ClientWords : Type 0 where
  pub no_texts : total [] ≡ 0
  pub texts_together : (t : Bor (List ℕ)) (ts : List (Bor (List ℕ))) → total (t ∷ ts) ≡ length t.now + total ts
  pub startup_message : (version : ℤ) (texts : List (Bor (List ℕ))) (out : List ℕ)
      → Writes (total texts) (startup version texts) out (startup_call version texts out)
  pub query_message : (text out : List ℕ) → Writes (length text) (query text) out (query_call text out)
  pub copy_done : (out : List ℕ) → Writes 0 copy_done_message out (copy_done_call out)
  pub terminates : (out : List ℕ) → Writes 0 terminate out (terminate_call out)
  pub status : (position : ℕ) (time : ℤ) (reply : Bool) (out : List ℕ)
      → Writes 0 (status_update position time reply) out (status_call position time reply out)

-- lossy texts and the texts of errors, with their marks; and the most bytes of a text's beginning that are well-formed
pub record TextWords : Type 0 where
  pub lossy : (text out : List ℕ) → WritesMarked (length text) (lossy_of text) (marks_of text) out (lossy_call text out)
  pub lossy_by_table : (text out : List ℕ) → WritesMarked (length text) (lossy_of text) (marks_of text) out (lossy_by_table_call text out)
  -- both calls answer and leave the same
  pub either_way : (text out : List ℕ) → lossy_call text out ≡ lossy_by_table_call text out
  pub error_text : (payload out : List ℕ)
      → WritesMarked (length payload) (error_text (fields_of payload) payload) (error_marks (fields_of payload) payload) out (error_text_call payload out)
  pub well_formed_prefix : (text : List ℕ) → Longest text (well_formed_prefix_call text)

-- ---- positions

-- a text is read as the number before its first slash times 4,294,967,296 and the number after it: 22 without a slash, then 23 for the first number,
-- then 24 for the second; refused, the position is 0. A position is written as a text
pub record PositionWords : Type 0 where
  pub no_slash : (text : List ℕ) → index_of 47 text ≡ none → parse_position_call text ≡ (22, 0)
  pub bad_high : (text : List ℕ) (i : ℕ) → index_of 47 text ≡ some i → hex_part (take i text) ≡ none → parse_position_call text ≡ (23, 0)
  pub bad_low : (text : List ℕ) (i high : ℕ) → index_of 47 text ≡ some i → hex_part (take i text) ≡ some high → hex_part (drop (i + 1) text) ≡ none
      → parse_position_call text ≡ (24, 0)
  pub parsed : (text : List ℕ) (i high low : ℕ) → index_of 47 text ≡ some i → hex_part (take i text) ≡ some high
      → hex_part (drop (i + 1) text) ≡ some low → parse_position_call text ≡ (0, high * 4294967296 + low)
  pub displayed : (position : ℕ) (out : List ℕ) → Writes 0 (display_of position) out (display_position_call position out)
