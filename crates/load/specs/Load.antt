-- A stream of messages drawn from a seed: document 02, wish 13. The bytes of the messages are those of PostgreSQL's documentation, as stream,
-- replication and pgoutput have them.
use Rattle.std.specs.Prelude.{ℕ, zero, suc, ◌%◌, ◌^◌, Bool, true, false, List, [], ◌∷◌, ◌++◌, replicate, pos, eqb, Result, Ok, Err}
use Rattle.wire.specs.Bytes.{pick}
use Rattle.error.specs.Refusal.{number_of as writer_number}
use Rattle.error.specs.Writer.{writing}
use Rattle.frames.specs.Message.{framed}
use Rattle.replication.specs.CopyData.{xlog_data, keep_alive}
use Rattle.pgoutput.specs.Boundary.{begin_bytes, commit_bytes}
use Rattle.load.specs.declared.Message.{Message}
use Rattle.load.specs.declared.Message.TheVariants.{KeepAlive, Begin, Data, Commit}
use Rattle.load.specs.declared.Made.{Made}
use Rattle.load.specs.declared.Refusal.{Refusal}
use Rattle.load.specs.declared.Refusal.TheVariants.{Writer, SeedZero}
use Rattle.load.specs.Xorshift.{drawn}

-- the number of each refusal; of a writer it is that of `error`
abbrev pub number_of : Refusal → ℕ
number_of (Writer r) = writer_number r
number_of SeedZero = 35

-- ---- what is drawn

-- by a number modulo 4
abbrev pub by_kind : {A : Type 0} → ℕ → A → A → A → A → A
by_kind n keepalive begin other commit =
    pick (eqb (n % 4) 0) keepalive (pick (eqb (n % 4) 1) begin (pick (eqb (n % 4) 2) other commit))

-- the first draw chooses the kind; one draw for each position or xid follows in wire order; a reply is the lowest bit of a last one, and how many
-- letters other data has is a last one modulo 64
unfoldable pub message_of : ℕ → Message
message_of s =
    by_kind (drawn 1 s)
    (KeepAlive (drawn 2 s) (eqb (drawn 3 s % 2) 1))
    (Begin (drawn 2 s) (drawn 3 s) (drawn 4 s) (drawn 5 s % 2 ^ 32))
    (Data (drawn 2 s) (drawn 3 s) (drawn 4 s % 64))
    (Commit (drawn 2 s) (drawn 3 s) (drawn 4 s) (drawn 5 s))

-- how many draws the message takes
unfoldable pub draws_of : ℕ → ℕ
draws_of s = by_kind (drawn 1 s) 3 5 4 5

-- the message and the state after its draws
unfoldable pub made_of : ℕ → Made
made_of s = record { message = message_of s; state = drawn (draws_of s) s }

-- ---- its bytes

-- a flag as a byte
abbrev pub bit : Bool → ℕ
bit true = 1
bit false = 0

-- the payload of the CopyData: times and flags are 0
unfoldable pub payload_of : Message → List ℕ
payload_of (KeepAlive end reply) = keep_alive end (pos 0) (bit reply)
payload_of (Begin start end final xid) = xlog_data start end (pos 0) (begin_bytes final (pos 0) xid)
payload_of (Data start end letters) = xlog_data start end (pos 0) (73 ∷ replicate letters 65)
payload_of (Commit start end position commit_end) = xlog_data start end (pos 0) (commit_bytes 0 position commit_end (pos 0))

-- the whole CopyData message
unfoldable pub bytes_of : Message → List ℕ
bytes_of m = framed 100 (payload_of m)

-- ---- the stream

-- n messages from a state
unfoldable pub messages_of : ℕ → ℕ → List Message
messages_of zero s = []
messages_of (suc n) s = message_of s ∷ messages_of n (drawn (draws_of s) s)

-- the bytes of messages, one after the other
unfoldable pub all_bytes : List Message → List ℕ
all_bytes [] = []
all_bytes (m ∷ ms) = bytes_of m ++ all_bytes ms

-- the stream of n messages from a seed
abbrev pub stream_of : ℕ → ℕ → List ℕ
stream_of n seed = all_bytes (messages_of n seed)

-- the refusal's number, 0 for none, and how many bytes were written
abbrev pub outcome : Result ℕ Refusal → ℕ × ℕ
outcome (Ok n) = (0, n)
outcome (Err r) = (number_of r, 0)

-- what a call answers and leaves: 35, then 4, leave the output as it was
unfoldable pub loading : ℕ → ℕ → List ℕ → (ℕ × ℕ) × List ℕ
loading seed n out = pick (eqb seed 0) ((35, 0), out) (writing 0 (stream_of n seed) out)
