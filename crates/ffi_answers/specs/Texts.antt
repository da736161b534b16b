-- What each exported call that writes or reads a text answers and leaves: one definition for each call, which its contract in `ffi_export` cites.
-- SCOPE 9.4, 9.5, 3.5, 3.6, 3.7.
use Rattle.std.specs.Prelude.{ℕ, Bool, List, ℤ, length}
use Rattle.std.specs.Borrow.{Bor}
use Rattle.error.specs.Inputs.{total}
use Rattle.error.specs.Writer.{writing}
use Rattle.frontend.specs.Frontend.{query, copy_done_message, terminate, status_update, startup}
use Rattle.lossy.specs.Lossy.{lossy_of}
use Rattle.lossy.specs.Marks.{marks_of, with_marks}
use Rattle.lossy.specs.Stretch.{stretch_of}
use Rattle.lsn.specs.Position.{display_of, position_of}
use Rattle.messages.specs.ErrorText.{error_text, error_marks}
use Rattle.messages.specs.Fields.{fields_of}

-- ---- texts of bytes

-- `rufflesquash_lossy`: refusal, bytes written and marks, and the output
abbrev pub lossy_call : List ℕ → List ℕ → (ℕ × ℕ × ℕ) × List ℕ
lossy_call text out = with_marks (marks_of text) (writing (length text) (lossy_of text) out)

-- `rufflesquash_lossy_by_table`: the same
abbrev pub lossy_by_table_call : List ℕ → List ℕ → (ℕ × ℕ × ℕ) × List ℕ
lossy_by_table_call text out = with_marks (marks_of text) (writing (length text) (lossy_of text) out)

-- `rufflesquash_well_formed_prefix`
abbrev pub well_formed_prefix_call : List ℕ → ℕ
well_formed_prefix_call text = stretch_of text

-- `rufflesquash_error_text`: as of a lossy text
abbrev pub error_text_call : List ℕ → List ℕ → (ℕ × ℕ × ℕ) × List ℕ
error_text_call payload out =
    with_marks (error_marks (fields_of payload) payload) (writing (length payload) (error_text (fields_of payload) payload) out)

-- ---- texts of positions

-- `rufflesquash_parse_position`: the refusal's number, 0 for none, and the position
abbrev pub parse_position_call : List ℕ → ℕ × ℕ
parse_position_call text = position_of text

-- `rufflesquash_display_position`: refusal and bytes written, and the output
abbrev pub display_position_call : ℕ → List ℕ → (ℕ × ℕ) × List ℕ
display_position_call position out = writing 0 (display_of position) out

-- ---- messages that a host sends outside the stream: refusal and bytes written, and the output

-- `rufflesquash_write_startup`, with names and values in turn
abbrev pub startup_call : ℤ → List (Bor (List ℕ)) → List ℕ → (ℕ × ℕ) × List ℕ
startup_call version texts out = writing (total texts) (startup version texts) out

-- `rufflesquash_write_query`
abbrev pub query_call : List ℕ → List ℕ → (ℕ × ℕ) × List ℕ
query_call text out = writing (length text) (query text) out

-- `rufflesquash_write_copy_done`
abbrev pub copy_done_call : List ℕ → (ℕ × ℕ) × List ℕ
copy_done_call out = writing 0 copy_done_message out

-- `rufflesquash_write_terminate`
abbrev pub terminate_call : List ℕ → (ℕ × ℕ) × List ℕ
terminate_call out = writing 0 terminate out

-- `rufflesquash_write_status`, with a position, the client's time and whether a reply is asked for
abbrev pub status_call : ℕ → ℤ → Bool → List ℕ → (ℕ × ℕ) × List ℕ
status_call position time reply out = writing 0 (status_update position time reply) out
