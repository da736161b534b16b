-- Parts of a payload as words: the rest of an authentication request, a column of a row, a field of an error, the error that ended a run.
-- SCOPE 9.4, 9.5.
use Rattle.std.specs.Prelude.{ℕ, min, List, [], ◌∷◌, ℤ, Option as Answer}
use Rattle.std.proofs.Math.Option.{Option, some, none}
use Rattle.wire.specs.Bytes.{flag_word}
use Rattle.messages.specs.declared.Field.{Field}
use Rattle.messages.specs.Auth.{auth_of}
use Rattle.messages.specs.Fields.{fields_of, indexed, is_given, part_of}
use Rattle.query.specs.DataRow.{columns_of, count_of, column_of}
use Rattle.wire.specs.Int.{value}
use Rattle.worker.specs.Answer.{error_part_of}
use Rattle.ffi_words.specs.Words.{run_of}

-- the refusal's number, 0 for none; the code in two's complement; where the rest begins and how long it is
abbrev pub auth_words : ℕ × ℤ × ℕ × ℕ → List ℕ
auth_words a = a.0 ∷ value 8 a.1 ∷ a.2 ∷ a.3 ∷ []

-- the refusal's number, 0 for none; and 0 absent, 1 null or 2 a value, where the value begins and how long it is
abbrev pub column_reply : ℕ × ℕ × ℕ × ℕ → ℕ × List ℕ
column_reply c = (c.0, c.1 ∷ c.2 ∷ c.3 ∷ [])

-- whether a field is given, where it begins and how long it is
abbrev pub field_words : Answer Field → List ℕ
field_words f = flag_word (is_given f) ∷ (part_of f).0 ∷ (part_of f).1 ∷ []

-- whether an error ended the run, and its payload's length as far as a buffer of n bytes has it
abbrev pub error_words : Option ℕ → ℕ → List ℕ
error_words none n = 0 ∷ 0 ∷ []
error_words (some len) n = 1 ∷ min len n ∷ []

-- `rufflesquash_error_part`, with a payload buffer's length
abbrev pub error_part_call : List ℕ → ℕ → List ℕ
error_part_call w n = error_words (error_part_of (run_of w)) n

-- ---- calls over a payload

-- `rufflesquash_auth_request`
abbrev pub auth_request_call : List ℕ → List ℕ
auth_request_call payload = auth_words (auth_of payload)

-- `rufflesquash_data_row`: the refusal's number, 0 for none, and how many columns there are
abbrev pub data_row_call : List ℕ → ℕ × ℕ
data_row_call payload = count_of (columns_of payload)

-- `rufflesquash_column`, with a column's number
abbrev pub data_column_call : List ℕ → ℕ → ℕ × List ℕ
data_column_call payload i = column_reply (column_of (columns_of payload) i)

-- `rufflesquash_error_field`, with a field's number
abbrev pub error_field_call : List ℕ → ℕ → List ℕ
error_field_call payload i = field_words (indexed (fields_of payload) i)
