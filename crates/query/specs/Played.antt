-- The messages of a query played one by one, a call for each, and that this gives what `answer_of` says of the whole list. SCOPE 3.11.
use Rattle.std.specs.Prelude.{ℕ, zero, suc, ◌+◌, min, max, true, ◌≡◌, List, [], ◌∷◌, ◌++◌, map, length, take, drop}
use Prim.Native.Char.{code}
use Rattle.std.proofs.Math.Option.{Option, some, none}
use Rattle.wire.specs.Bytes.{pick}
use Rattle.frames.specs.Tag.{is_error}
use Rattle.query.specs.DataRow.{columns_of, column_of, column_said}
use Rattle.query.specs.Query.{Ending, answer_of}
use Rattle.query.specs.Fold.{Said, fresh, message_of}
use Rattle.query.specs.declared.Column.{Column}
use Rattle.query.specs.declared.simple.SimpleQuery.{SimpleQuery}

-- n columns of a row, each asked for by its number, from i on
unfoldable pub asked : Option (List Column) → ℕ → ℕ → List (ℕ × ℕ × ℕ × ℕ)
asked r i zero = []
asked r i (suc n) = column_of r i ∷ asked r (i + 1) n

-- what the answers about the columns of a row say
abbrev pub answered : List Column → List (ℕ × ℕ × ℕ × ℕ)
answered cs = map column_said cs

-- what the calls give: the rows handed on, what the call said that ended the query, if one did, and the query and the buffer after them
pub record Played : Type 0 where
  pub rows : List (List (ℕ × ℕ × ℕ × ℕ))
  pub last : Option Said
  pub query : SimpleQuery
  pub error : List ℕ

abbrev pub stopped : Option Said → SimpleQuery → List ℕ → Played
stopped said q error = record { rows = []; last = said; query = q; error = error }

abbrev pub handed : List (ℕ × ℕ × ℕ × ℕ) → Played → Played
handed cs p = record { rows = cs ∷ p.rows; last = p.last; query = p.query; error = p.error }

-- by the answer to a message: the calls go on, and after a row each of its columns is asked for; or they stop
abbrev pub played_by : Said → List ℕ → SimpleQuery → List ℕ → Played → Played
played_by Said.more payload q error rest = rest
played_by (Said.data_row n) payload q error rest = handed (asked (columns_of payload) 0 n) rest
played_by Said.ready payload q error rest = stopped (some Said.ready) q error
played_by (Said.failed n len) payload q error rest = stopped (some (Said.failed n len)) q error
played_by (Said.refused n) payload q error rest = stopped (some (Said.refused n)) q error

-- a call for each message, until one ends the query; the same buffer is lent to each
unfoldable pub play_from : SimpleQuery → List ℕ → List (ℕ × List ℕ) → Played
play_from q error [] = stopped none q error
play_from q error (m ∷ ms) =
    let s : SimpleQuery × Said × List ℕ = message_of q m.0 m.1 error in
    played_by s.1 m.1 s.0 s.2 (play_from s.0 s.2 ms)

-- the same from a new query on
unfoldable pub play_of : List ℕ → List (ℕ × List ℕ) → Played
play_of error ms = play_from fresh error ms

-- how many bytes of an error a buffer of so many bytes has room for
abbrev pub fitting : ℕ → List ℕ → ℕ
fitting room e = min (length e) room

-- a query after a last error: it says how much of the error stands at the buffer's front, and how long the error was
abbrev pub Holds : ℕ → Option (List ℕ) → SimpleQuery → List ℕ → Type 0
Holds room none q error = q ≡ fresh
Holds room (some e) q error =
    (q ≡ record { failed = true; kept = fitting room e; len = length e }) × (take (fitting room e) error ≡ take (fitting room e) e)

-- what the last call said, and the query and the buffer after it, where the query ends so and the buffer has so many bytes
abbrev pub Ends : ℕ → Ending → Option Said → SimpleQuery → List ℕ → Type 0
Ends room Ending.ready last q error = (last ≡ some Said.ready) × (q ≡ fresh)
Ends room (Ending.failed e) last q error =
    (last ≡ some (Said.failed (fitting room e) (length e))) × (take (fitting room e) error ≡ take (fitting room e) e) × (q ≡ fresh)
Ends room Ending.malformed last q error = (last ≡ some (Said.refused 20)) × (q ≡ fresh)
Ends room (Ending.open_yet e) last q error = (last ≡ none) × Holds room e q error

-- messages played from a new query on hand on the rows of the answer and end as it does; an error that the buffer has no room for is
-- answered with its whole length
abbrev pub PlayAnswers : Type 0
PlayAnswers = (error : List ℕ) (ms : List (ℕ × List ℕ)) →
    let p : Played = play_of error ms in
    (p.rows ≡ map answered (answer_of ms).rows) × Ends (length error) (answer_of ms).ending p.last p.query p.error

-- ---- the buffer

-- the longest error of a list of messages
abbrev pub longest : List (ℕ × List ℕ) → ℕ
longest [] = 0
longest (m ∷ ms) = pick (is_error m.0) (max (length m.1) (longest ms)) (longest ms)

-- the buffer is as long as it was, and past the longest error it holds the bytes that it held
abbrev pub BufferIsLeft : Type 0
BufferIsLeft = (error : List ℕ) (ms : List (ℕ × List ℕ)) →
    let p : Played = play_of error ms in
    (length p.error ≡ length error) × (drop (longest ms) p.error ≡ drop (longest ms) error)

-- ---- the last error

-- messages after which the query goes on: no `Z`, and no malformed row
abbrev pub GoesOn : List (ℕ × List ℕ) → Type 0
GoesOn [] = Unit
GoesOn (m ∷ ms) = (m.0 ≡ code "Z" → ⊥) × (m.0 ≡ code "D" → columns_of m.1 ≡ none → ⊥) × GoesOn ms

-- messages without an error
abbrev pub NoError : List (ℕ × List ℕ) → Type 0
NoError [] = Unit
NoError (m ∷ ms) = (m.0 ≡ code "E" → ⊥) × NoError ms

-- the error of a query is that of its last ErrorResponse before `Z`
abbrev pub LastErrorWins : Type 0
LastErrorWins = (before : List (ℕ × List ℕ)) (e : List ℕ) (after : List (ℕ × List ℕ)) (z : List ℕ) (rest : List (ℕ × List ℕ))
    → GoesOn before → GoesOn after → NoError after
    → (answer_of (before ++ ((code "E", e) ∷ (after ++ ((code "Z", z) ∷ rest))))).ending ≡ Ending.failed e

-- a query without an ErrorResponse before `Z` has none
abbrev pub NoErrorIsReady : Type 0
NoErrorIsReady = (before : List (ℕ × List ℕ)) (z : List ℕ) (rest : List (ℕ × List ℕ)) → GoesOn before → NoError before
    → (answer_of (before ++ ((code "Z", z) ∷ rest))).ending ≡ Ending.ready
