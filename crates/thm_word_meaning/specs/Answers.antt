-- What each word of the answers about messages outside a stream means, one by one and literally, whatever is answered: messages, simple queries, rows
-- of data, authentication requests, fields of errors; and of two answers about a run. SCOPE 9.2, 9.4.
-- The places and values have names in ffi_words/src/layout.rt.
use Prim.Native.Char.{code}
use Rattle.std.specs.Prelude.{ℕ, ◌≤◌, ◌%◌, Bool, List, [], ◌∷◌, ◌≡◌, ℤ, length, Option as Answer}
use Rattle.std.proofs.Math.Option.{some, none}
use Rattle.framing.specs.Read as F
use Rattle.framing.specs.Read.{read_of}
use Rattle.framing.specs.declared.MessageReader.{MessageReader}
use Rattle.messages.specs.declared.Field.{Field}
use Rattle.messages.specs.Auth.{auth_of}
use Rattle.messages.specs.Fields.{fields_of, indexed, is_given, part_of, last_of, absent, entries_of}
use Rattle.query.specs.declared.Column.{Column}
use Rattle.query.specs.declared.Column.TheVariants.{Null, Part, Absent}
use Rattle.query.specs.declared.simple.SimpleQuery.{SimpleQuery}
use Rattle.query.specs.Fold as Q
use Rattle.query.specs.Fold.{message_of}
use Rattle.query.specs.DataRow.{columns_of, nth}
use Rattle.schedule.specs.NextStep.{at_once, from, on_input, never}
use Rattle.ffi_answers.specs.Fold.{simple_query_of, query_words, query_message_call}
use Rattle.ffi_answers.specs.Next.{next_words}
use Rattle.ffi_answers.specs.Parts.{error_words, auth_request_call, data_row_call, data_column_call, error_field_call}
use Rattle.ffi_answers.specs.Read.{read_call}
use Rattle.thm_host_calls.specs.HostWords.{word, is_set, flag, twos}

-- ---- of a run

-- 0 at once, 1 from the moment in the second word on, 2 when something comes, 3 never
abbrev pub NextWords : Type 0
NextWords =
    (next_words at_once ≡ 0 ∷ 0 ∷ []) × ((m : ℕ) → next_words (from m) ≡ 1 ∷ m ∷ []) × (next_words on_input ≡ 2 ∷ 0 ∷ []) × (next_words never ≡ 3 ∷ 0 ∷ [])

-- an error that ended a run: 1 and its length, which is at most the payload buffer's; else 0 and 0
abbrev pub ErrorWords : Type 0
ErrorWords =
    (n : ℕ) → (error_words none n ≡ 0 ∷ 0 ∷ [])
    × ((len : ℕ) → len ≤ n → error_words (some len) n ≡ 1 ∷ len ∷ [])
    × ((len : ℕ) → n ≤ len → error_words (some len) n ≡ 1 ∷ n ∷ [])

-- ---- one read of messages

-- the reader that eight words stand for: five bytes of a header, how many bytes came, the payload's length, whether a message over the limit was met
abbrev pub reader_by : List ℕ → MessageReader
reader_by w =
    record {
      header = word w 0 % 256 ∷ word w 1 % 256 ∷ word w 2 % 256 ∷ word w 3 % 256 ∷ word w 4 % 256 ∷ [];
      filled = word w 5;
      payload_len = word w 6;
      refused = is_set (word w 7);
    }

-- the words of a reader, which stand for it
abbrev pub reader_left : MessageReader → List ℕ × MessageReader
reader_left r = (
  word r.header 0 ∷ word r.header 1 ∷ word r.header 2 ∷ word r.header 3 ∷ word r.header 4 ∷ r.filled ∷ r.payload_len
      ∷ flag r.refused ∷ [],
  r,
)

-- the reader that is left; refusal, taken, whether a message is whole, its tag, its payload's length; and the payload buffer that is left
pub record ReadWords (w : List ℕ) (limit : ℕ) (unread : List ℕ) (ended : Bool) (payload : List ℕ) : Type 0 where
  pub more : (r : MessageReader) (taken : ℕ) (left : List ℕ) → read_of limit (reader_by w) unread ended payload ≡ (F.more, r, taken, left)
      → read_call w limit unread ended payload ≡ (reader_left r, 0 ∷ taken ∷ 0 ∷ 0 ∷ 0 ∷ [], left)
  pub whole : (tag n : ℕ) (r : MessageReader) (taken : ℕ) (left : List ℕ)
      → read_of limit (reader_by w) unread ended payload ≡ (F.whole tag n, r, taken, left)
      → read_call w limit unread ended payload ≡ (reader_left r, 0 ∷ taken ∷ 1 ∷ tag ∷ n ∷ [], left)
  pub refused : (number : ℕ) (r : MessageReader) (taken : ℕ) (left : List ℕ)
      → read_of limit (reader_by w) unread ended payload ≡ (F.refused number, r, taken, left)
      → read_call w limit unread ended payload ≡ (reader_left r, number ∷ taken ∷ 0 ∷ 0 ∷ 0 ∷ [], left)

-- of any words and bytes
abbrev pub ReadsTold : Type 0
ReadsTold = (w : List ℕ) (limit : ℕ) (unread : List ℕ) (ended : Bool) (payload : List ℕ) → ReadWords w limit unread ended payload

-- ---- a message of a simple query

-- whether an error came, how many of its bytes are kept, how many it had; words that are all 0 are a query of which no message came
abbrev pub QueryWords : Type 0
QueryWords =
    ((a b c d : ℕ) → simple_query_of (a ∷ b ∷ c ∷ d ∷ []) ≡ record { failed = is_set a; kept = b; len = c })
    × ((a : Bool) (b c : ℕ) → query_words (record { failed = a; kept = b; len = c }) ≡ flag a ∷ b ∷ c ∷ 0 ∷ [])
    × (simple_query_of (0 ∷ 0 ∷ 0 ∷ 0 ∷ []) ≡ Q.fresh)

-- the query that four words stand for
abbrev pub query_by : List ℕ → SimpleQuery
query_by w = record { failed = is_set (word w 0); kept = word w 1; len = word w 2 }

-- the words of a query, which stand for it
abbrev pub query_left : SimpleQuery → List ℕ × SimpleQuery
query_left q = (flag q.failed ∷ q.kept ∷ q.len ∷ 0 ∷ [], q)

-- the query that is left; 0 go on, 1 a row and its columns, 2 the end, 3 the end with an error: bytes kept, bytes that it had; 4 a refusal's number;
-- and the error buffer that is left
pub record FoldWords (w : List ℕ) (tag : ℕ) (payload error : List ℕ) : Type 0 where
  pub more : (q : SimpleQuery) (left : List ℕ) → message_of (query_by w) tag payload error ≡ (q, Q.more, left)
      → query_message_call w tag payload error ≡ (query_left q, 0 ∷ 0 ∷ 0 ∷ [], left)
  pub row : (n : ℕ) (q : SimpleQuery) (left : List ℕ) → message_of (query_by w) tag payload error ≡ (q, Q.data_row n, left)
      → query_message_call w tag payload error ≡ (query_left q, 1 ∷ n ∷ 0 ∷ [], left)
  pub ready : (q : SimpleQuery) (left : List ℕ) → message_of (query_by w) tag payload error ≡ (q, Q.ready, left)
      → query_message_call w tag payload error ≡ (query_left q, 2 ∷ 0 ∷ 0 ∷ [], left)
  pub failed : (kept len : ℕ) (q : SimpleQuery) (left : List ℕ) → message_of (query_by w) tag payload error ≡ (q, Q.failed kept len, left)
      → query_message_call w tag payload error ≡ (query_left q, 3 ∷ kept ∷ len ∷ [], left)
  pub refused : (number : ℕ) (q : SimpleQuery) (left : List ℕ) → message_of (query_by w) tag payload error ≡ (q, Q.refused number, left)
      → query_message_call w tag payload error ≡ (query_left q, 4 ∷ number ∷ 0 ∷ [], left)

-- of any words and any message
abbrev pub QueriesTold : Type 0
QueriesTold = (w : List ℕ) (tag : ℕ) (payload error : List ℕ) → FoldWords w tag payload error

-- ---- a row of data

-- 20 and 0 for a malformed row; else 0 and how many columns there are
pub record DataRowWords : Type 0 where
  pub malformed : (payload : List ℕ) → columns_of payload ≡ none → data_row_call payload ≡ (20, 0)
  pub columns : (payload : List ℕ) (cs : List Column) → columns_of payload ≡ some cs → data_row_call payload ≡ (0, length cs)

-- refusal; and 0 absent, 1 null, 2 a value, its place, its length
pub record ColumnWords : Type 0 where
  pub malformed : (payload : List ℕ) (i : ℕ) → columns_of payload ≡ none → data_column_call payload i ≡ (20, 0 ∷ 0 ∷ 0 ∷ [])
  pub no_such : (payload : List ℕ) (i : ℕ) (cs : List Column) → columns_of payload ≡ some cs → nth i cs ≡ Absent
      → data_column_call payload i ≡ (0, 0 ∷ 0 ∷ 0 ∷ [])
  pub null : (payload : List ℕ) (i : ℕ) (cs : List Column) → columns_of payload ≡ some cs → nth i cs ≡ Null
      → data_column_call payload i ≡ (0, 1 ∷ 0 ∷ 0 ∷ [])
  pub value : (payload : List ℕ) (i place len : ℕ) (cs : List Column) → columns_of payload ≡ some cs → nth i cs ≡ Part place len
      → data_column_call payload i ≡ (0, 2 ∷ place ∷ len ∷ [])

-- ---- an authentication request, a field of an error

-- refusal, code in two's complement, place and length of the rest
abbrev pub AuthWords : Type 0
AuthWords =
    (payload : List ℕ) (refusal : ℕ) (asked : ℤ) (place len : ℕ) → auth_of payload ≡ (refusal, asked, place, len)
    → auth_request_call payload ≡ refusal ∷ twos asked ∷ place ∷ len ∷ []

-- whether it is given, its place, its length
abbrev pub FieldWords : Type 0
FieldWords =
    (payload : List ℕ) (i : ℕ) → let f : Answer Field = indexed (fields_of payload) i in
    error_field_call payload i ≡ flag (is_given f) ∷ (part_of f).0 ∷ (part_of f).1 ∷ []

-- the field that has a letter, which is the last one with it
abbrev pub lettered : List ℕ → ℕ → Answer Field
lettered payload letter = last_of letter absent (entries_of payload)

-- the number of each field, by its letter; from 15 on there is none
pub record FieldNumbers (payload : List ℕ) : Type 0 where
  pub severity : indexed (fields_of payload) 0 ≡ lettered payload (code "S")
  pub sqlstate : indexed (fields_of payload) 1 ≡ lettered payload (code "C")
  pub message : indexed (fields_of payload) 2 ≡ lettered payload (code "M")
  pub detail : indexed (fields_of payload) 3 ≡ lettered payload (code "D")
  pub hint : indexed (fields_of payload) 4 ≡ lettered payload (code "H")
  pub position : indexed (fields_of payload) 5 ≡ lettered payload (code "P")
  pub place : indexed (fields_of payload) 6 ≡ lettered payload (code "W")
  pub schema : indexed (fields_of payload) 7 ≡ lettered payload (code "s")
  pub table : indexed (fields_of payload) 8 ≡ lettered payload (code "t")
  pub column : indexed (fields_of payload) 9 ≡ lettered payload (code "c")
  pub data_type : indexed (fields_of payload) 10 ≡ lettered payload (code "d")
  pub constraint : indexed (fields_of payload) 11 ≡ lettered payload (code "n")
  pub file : indexed (fields_of payload) 12 ≡ lettered payload (code "F")
  pub line : indexed (fields_of payload) 13 ≡ lettered payload (code "L")
  pub routine : indexed (fields_of payload) 14 ≡ lettered payload (code "R")
  pub beyond : (i : ℕ) → 15 ≤ i → error_field_call payload i ≡ 0 ∷ 0 ∷ 0 ∷ []

-- of any payload
abbrev pub FieldsNumbered : Type 0
FieldsNumbered = (payload : List ℕ) → FieldNumbers payload
