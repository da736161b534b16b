-- The fold of `simple_query` a message at a time: what each message answers, and what it leaves. Rows are handed on one by one until `Z`, and
-- the last error is the query's. SCOPE 3.11; 01, "Messages".
use Rattle.std.specs.Prelude.{ℕ, true, false, List, length, Result, Ok, Err}
use Rattle.std.proofs.Math.Option.{Option, some, none}
use Rattle.wire.specs.Bytes.{pick, copied}
use Rattle.frames.specs.Tag.{is_data_row, is_error, is_ready_for_query}
use Rattle.error.specs.Refusal.{number_of}
use Rattle.error.specs.declared.Refusal.{Refusal}
use Rattle.query.specs.DataRow.{columns_of}
use Rattle.query.specs.declared.Column.{Column}
use Rattle.query.specs.declared.simple.SimpleQuery.{SimpleQuery}
use Rattle.query.specs.declared.simple.Answer.{Answer}

-- what an answer says: go on; a row of so many columns; the end; the end with an error, how many of its bytes stand in the buffer and how many
-- it had; or 01's number of a refusal
pub data Said : Type 0 where
  more : Said
  data_row : ℕ → Said
  ready : Said
  failed : ℕ → ℕ → Said
  refused : ℕ → Said

abbrev pub answer_outcome : Result Answer Refusal → Said
answer_outcome (Ok Answer.More) = more
answer_outcome (Ok (Answer.DataRow n)) = data_row n
answer_outcome (Ok Answer.Ready) = ready
answer_outcome (Ok (Answer.Failed n len)) = failed n len
answer_outcome (Err r) = refused (number_of r)

-- a query of which no message came
abbrev pub fresh : SimpleQuery
fresh = record { failed = false; kept = 0; len = 0 }

-- `D`: its row is handed on; a malformed one ends the query with 20
abbrev pub data_row_answer : SimpleQuery → Option (List Column) → SimpleQuery × Said
data_row_answer q none = (fresh, refused 20)
data_row_answer q (some cs) = (q, data_row (length cs))

-- `Z`: by whether an error came
abbrev pub end_answer : SimpleQuery → Said
end_answer q = pick q.failed (failed q.kept q.len) ready

-- `E`, a payload of so many bytes: it stands at the front of the buffer as far as that has room, over the error before it
abbrev pub error_kept : ℕ → ℕ × List ℕ → SimpleQuery × Said × List ℕ
error_kept n c = (record { failed = true; kept = c.0; len = n }, more, c.1)

-- a message's tag and payload: the query after it, what it answers, and the buffer after it. Other tags are skipped
unfoldable pub message_of : SimpleQuery → ℕ → List ℕ → List ℕ → SimpleQuery × Said × List ℕ
message_of q tag payload error =
    let r : SimpleQuery × Said = data_row_answer q (columns_of payload) in
    pick (is_data_row tag) (r.0, r.1, error)
    (pick (is_error tag) (error_kept (length payload) (copied error payload))
    (pick (is_ready_for_query tag) (fresh, end_answer q, error)
    (q, more, error)))
