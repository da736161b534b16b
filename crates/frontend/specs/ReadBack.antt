-- A server's reader of what a client sends, written from the PostgreSQL documentation, "Message Formats" and "Streaming Replication Protocol",
-- and that it reads back what the writers write. SCOPE 3.6, 3.7; 01, "Messages". That a length is signed is 01's and the Rust's reading: the
-- documentation's Int32 is an n-bit integer.
use Rattle.std.specs.Prelude.{◌≡◌, Bool, true, false, List, [], ◌∷◌, ◌++◌, ℕ, ◌+◌, ◌-◌, ◌%◌, ◌^◌, ◌<◌, length, drop, ℤ, ltb, eqb}
use Rattle.std.proofs.Math.Option.{Option, some, none}
use Rattle.std.specs.Int.Signed.{mag}
use Rattle.std.specs.Borrow.{Bor}
use Rattle.wire.specs.Bytes.{pick, at}
use Rattle.wire.specs.Field.{and_then, field_at}
use Rattle.wire.specs.Int.{half, is_negative, int, value, int_at}
use Rattle.wire.specs.Find.{NoZero}
use Rattle.frontend.specs.Frontend.{query, copy_data, copy_done_message, terminate, status_body, status_update, startup}
use Rattle.frontend.specs.Startup.{string_of, startup_of, paired, Sendable}

-- ---- the reader

-- a message: its tag, its payload, and the bytes after it
pub record Message : Type 0 where
  pub tag : ℕ
  pub payload : List ℕ
  pub rest : List ℕ

-- Byte1 tag, Int32 length that counts itself and not the tag, and that many bytes less four; none where the length is below 4 or the bytes
-- are not all there
unfoldable pub message_read : List ℕ → Option Message
message_read s =
    and_then (field_at 1 s 0) (λ tag.
    and_then (field_at 4 s 1) (λ n.
    pick (is_negative 4 n) none
    (pick (ltb n 4) none
    (pick (ltb (length s) (1 + n)) none
    (some (record { tag = tag; payload = at s 5 (n - 4); rest = drop (1 + n) s }))))))

-- a Standby status update: the positions written, flushed and applied, the client's time, and whether a reply is asked for
pub record Status : Type 0 where
  pub written : ℕ
  pub flushed : ℕ
  pub applied : ℕ
  pub time : ℤ
  pub reply : Bool

-- the reply byte: 1 asks for a reply, 0 does not
abbrev pub reply_of : ℕ → Option Bool
reply_of b = pick (eqb b 1) (some true) (pick (eqb b 0) (some false) none)

-- Byte1('r'), Int64 written, Int64 flushed, Int64 applied, Int64 client time, Byte1 reply: 34 bytes
unfoldable pub body_of : List ℕ → Option Status
body_of b =
    pick (eqb (length b) 34)
    (and_then (field_at 1 b 0) (λ letter.
    pick (eqb letter 114)
    (and_then (field_at 8 b 1) (λ written.
    and_then (field_at 8 b 9) (λ flushed.
    and_then (field_at 8 b 17) (λ applied.
    and_then (int_at 8 b 25) (λ time.
    and_then (field_at 1 b 33) (λ byte.
    and_then (reply_of byte) (λ reply.
    some (record { written = written; flushed = flushed; applied = applied; time = time; reply = reply }))))))))
    none))
    none

-- the payload of a CopyData, Byte1('d')
abbrev pub in_copy_data : Message → Option Status
in_copy_data m = pick (eqb m.tag 100) (body_of m.payload) none

-- a status update in a CopyData, at the front of these bytes
unfoldable pub status_of : List ℕ → Option Status
status_of s = and_then (message_read s) in_copy_data

-- a status that confirms one position: written, flushed and applied are the same
abbrev pub confirming : ℕ → ℤ → Bool → Status
confirming position time reply = record { written = position; flushed = position; applied = position; time = time; reply = reply }

-- a query's text, a String: the bytes before the first zero byte, and the bytes of the payload after that
abbrev pub in_query : Message → Option (List ℕ × List ℕ)
in_query m = pick (eqb m.tag 81) (string_of m.payload) none

-- a query at the front of these bytes
unfoldable pub query_of : List ℕ → Option (List ℕ × List ℕ)
query_of s = and_then (message_read s) in_query

-- ---- what is written is read back, whatever bytes follow

abbrev pub CopyDataReadBack : Type 0
CopyDataReadBack = (payload rest : List ℕ) → length payload + 4 < half 4
    → message_read (copy_data payload ++ rest) ≡ some (record { tag = 100; payload = payload; rest = rest })

abbrev pub CopyDoneReadBack : Type 0
CopyDoneReadBack = (rest : List ℕ) → message_read (copy_done_message ++ rest) ≡ some (record { tag = 99; payload = []; rest = rest })

abbrev pub TerminateReadBack : Type 0
TerminateReadBack = (rest : List ℕ) → message_read (terminate ++ rest) ≡ some (record { tag = 88; payload = []; rest = rest })

-- a text without a zero byte is the query that the server reads, and nothing of the payload is left
abbrev pub QueryReadBack : Type 0
QueryReadBack = (text rest : List ℕ) → NoZero text → length text + 5 < half 4 → query_of (query text ++ rest) ≡ some (text, [])

-- of a text with a zero byte in it the server reads what stands before the first one, and finds bytes left after the String
abbrev pub QueryCutAtZero : Type 0
QueryCutAtZero = (seen hidden rest : List ℕ) → NoZero seen → length (seen ++ (0 ∷ hidden)) + 5 < half 4
    → query_of (query (seen ++ (0 ∷ hidden)) ++ rest) ≡ some (seen, hidden ++ (0 ∷ []))

-- a status body is read as the position three times, the time and the reply
abbrev pub BodyReadBack : Type 0
BodyReadBack = (position : ℕ) (time : ℤ) (reply : Bool) → position < 2 ^ 64 → mag time < half 8
    → body_of (status_body position time reply) ≡ some (confirming position time reply)

-- the whole message is read as the position three times, the time and the reply
abbrev pub StatusReadBack : Type 0
StatusReadBack = (position : ℕ) (time : ℤ) (reply : Bool) (rest : List ℕ) → position < 2 ^ 64 → mag time < half 8
    → status_of (status_update position time reply ++ rest) ≡ some (confirming position time reply)

-- a status of any numbers is read as their lowest 64 bits
abbrev pub StatusReadBackModulo : Type 0
StatusReadBackModulo = (position : ℕ) (time : ℤ) (reply : Bool) (rest : List ℕ)
    → status_of (status_update position time reply ++ rest) ≡ some (confirming (position % 2 ^ 64) (int 8 (value 8 time % 2 ^ 64)) reply)

-- a startup message of texts without zero bytes and of names that are not empty is read back
abbrev pub StartupReadBack : Type 0
StartupReadBack = (version : ℤ) (texts : List (Bor (List ℕ))) (rest : List ℕ) → mag version < half 4 → Sendable texts
    → length (startup version texts) < half 4
    → startup_of (startup version texts ++ rest) ≡ some (record { version = version; parameters = paired texts; rest = rest })
