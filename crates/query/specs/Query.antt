-- The answers to a simple query, of the whole list of its messages. SCOPE 3.11; 01, "Messages".
use Rattle.std.specs.Prelude.{ℕ, List, [], ◌∷◌}
use Rattle.std.proofs.Math.Option.{Option, some, none}
use Rattle.wire.specs.Bytes.{pick}
use Rattle.frames.specs.Tag.{is_data_row, is_error, is_ready_for_query}
use Rattle.query.specs.DataRow.{columns_of}
use Rattle.query.specs.declared.Column.{Column}

-- how a query ends: without an error, with the payload of the last ErrorResponse, or with a malformed row (20); or not yet
pub data Ending : Type 0 where
  ready : Ending
  failed : List ℕ → Ending
  malformed : Ending
  open_yet : Option (List ℕ) → Ending

-- the columns of the rows in their order, and the ending
pub record Answer : Type 0 where
  pub rows : List (List Column)
  pub ending : Ending

abbrev pub ending_by : Option (List ℕ) → Ending
ending_by none = ready
ending_by (some e) = failed e

abbrev pub only : Ending → Answer
only e = record { rows = []; ending = e }

abbrev pub data_row_then : Option (List Column) → Answer → Answer
data_row_then none a = only malformed
data_row_then (some cs) a = record { rows = cs ∷ a.rows; ending = a.ending }

-- the messages of a query, each a tag and a payload, after a last error: `D` a row, `E` an error, `Z` the end, others skipped
unfoldable pub answer_from : Option (List ℕ) → List (ℕ × List ℕ) → Answer
answer_from e [] = only (open_yet e)
answer_from e (m ∷ ms) =
    pick (is_data_row m.0) (data_row_then (columns_of m.1) (answer_from e ms))
    (pick (is_error m.0) (answer_from (some m.1) ms)
    (pick (is_ready_for_query m.0) (only (ending_by e))
    (answer_from e ms)))

-- from the first message on, no error yet
unfoldable pub answer_of : List (ℕ × List ℕ) → Answer
answer_of ms = answer_from none ms
