-- The messages that a client sends: PostgreSQL documentation, "Message Formats" (Query, CopyData, CopyDone, Terminate, StartupMessage), and
-- "Streaming Replication Protocol" (Standby status update). A String ends in a zero byte. SCOPE 3.6, 3.7; 01, "Messages". ReadBack.antt
-- has the reader of these messages.
use Rattle.std.specs.Prelude.{ℕ, ◌+◌, Bool, List, [], ◌∷◌, ◌++◌, length, ℤ}
use Rattle.std.specs.Borrow.{Bor}
use Rattle.wire.specs.Bytes.{be_bytes, flag_word}
use Rattle.wire.specs.Int.{int_bytes}
use Rattle.frames.specs.Message.{framed}

-- Query: Byte1('Q'), Int32, String
unfoldable pub query : List ℕ → List ℕ
query text = framed 81 (text ++ (0 ∷ []))

-- CopyData: Byte1('d'), Int32, Byten
unfoldable pub copy_data : List ℕ → List ℕ
copy_data payload = framed 100 payload

-- CopyDone: Byte1('c'), Int32(4)
unfoldable pub copy_done_message : List ℕ
copy_done_message = framed 99 []

-- Terminate: Byte1('X'), Int32(4)
unfoldable pub terminate : List ℕ
terminate = framed 88 []

-- Standby status update: Byte1('r'), Int64 written, Int64 flushed, Int64 applied, Int64 client time, Byte1 reply. The one position
-- stands for all three
unfoldable pub status_body : ℕ → ℤ → Bool → List ℕ
status_body position time reply =
    114 ∷ (be_bytes 8 position  -- written
    ++ (be_bytes 8 position  -- flushed
    ++ (be_bytes 8 position  -- applied
    ++ (int_bytes 8 time
    ++ (flag_word reply ∷ [])))))

-- the whole message: the body in a CopyData
unfoldable pub status_update : ℕ → ℤ → Bool → List ℕ
status_update position time reply = copy_data (status_body position time reply)

-- names and values in turn, a zero byte after the last pair. A name without a value has the empty one
unfoldable pub pairs : List (Bor (List ℕ)) → List ℕ
pairs [] = 0 ∷ []
pairs (name ∷ []) = name.now ++ (0 ∷ 0 ∷ 0 ∷ [])
pairs (name ∷ value ∷ rest) = name.now ++ (0 ∷ (value.now ++ (0 ∷ pairs rest)))

-- StartupMessage: Int32 length counting itself, Int32 version, pairs; it has no tag
unfoldable pub startup : ℤ → List (Bor (List ℕ)) → List ℕ
startup version texts =
    let body : List ℕ = int_bytes 4 version ++ pairs texts in
    be_bytes 4 (length body + 4) ++ body
