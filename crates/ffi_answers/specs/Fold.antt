-- The answers to a simple query, message by message, as words. SCOPE 9.4, 3.11.
use Rattle.std.specs.Prelude.{ℕ, List, [], ◌∷◌, ◌≡◌, get_or}
use Rattle.wire.specs.Bytes.{flag_word}
use Rattle.query.specs.declared.simple.SimpleQuery.{SimpleQuery}
use Rattle.query.specs.Fold.{Said, more, data_row, ready, failed, refused, message_of}
use Rattle.ffi_words.specs.Words.{flag_of}

-- every list is read, whatever its words are; the fourth is ignored
abbrev pub simple_query_of : List ℕ → SimpleQuery
simple_query_of w = record { failed = flag_of (get_or w 0 0); kept = get_or w 1 0; len = get_or w 2 0 }

-- whether an error came, how many of its bytes are kept, how many it had, and a word for later versions
abbrev pub query_words : SimpleQuery → List ℕ
query_words q = flag_word q.failed ∷ q.kept ∷ q.len ∷ 0 ∷ []

-- its kind, its value, and how long an error was
abbrev pub fold_words : Said → List ℕ
fold_words more = 0 ∷ 0 ∷ 0 ∷ []
fold_words (data_row n) = 1 ∷ n ∷ 0 ∷ []
fold_words ready = 2 ∷ 0 ∷ 0 ∷ []
fold_words (failed kept len) = 3 ∷ kept ∷ len ∷ []
fold_words (refused number) = 4 ∷ number ∷ 0 ∷ []

-- words, and the query that they stand for
abbrev pub QueryStanding : Type 0
QueryStanding = List ℕ × SimpleQuery

-- any words stand for some query
abbrev pub query_standing : List ℕ → QueryStanding
query_standing w = (w, simple_query_of w)

-- query, answer and error buffer after a message; the query's words stand for it
abbrev pub fold_left : SimpleQuery × Said × List ℕ → QueryStanding × List ℕ × List ℕ
fold_left x = ((query_words x.0, x.0), fold_words x.1, x.2)

-- `rufflesquash_query_message`, with a message's tag and payload and a buffer for an error
abbrev pub query_message_call : List ℕ → ℕ → List ℕ → List ℕ → QueryStanding × List ℕ × List ℕ
query_message_call w tag payload error = fold_left (message_of (simple_query_of w) tag payload error)

-- the words of a query stand for it
abbrev pub QueryRoundTrip : Type 0
QueryRoundTrip = (q : SimpleQuery) → simple_query_of (query_words q) ≡ q
