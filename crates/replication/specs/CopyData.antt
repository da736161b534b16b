-- What a CopyData payload of the replication stream says: PostgreSQL documentation, "Streaming Replication Protocol" (XLogData, Primary
-- keepalive message); SCOPE 3.8.
use Rattle.std.specs.Prelude.{ℕ, ◌-◌, Bool, true, false, not, List, [], ◌∷◌, ◌++◌, length, get_or, ℤ, ltb, eqb, Result, Ok, Err}
use Rattle.wire.specs.Bytes.{pick, at, be, be_bytes}
use Rattle.wire.specs.Int.{int, int_bytes}
use Rattle.error.specs.Refusal.{number_of}
use Rattle.error.specs.declared.Refusal.{Refusal}
use Rattle.replication.specs.declared.CopyData.{CopyData}
use Rattle.replication.specs.declared.CopyData.TheVariants.{XLogData, KeepAlive}

-- the values: of `w` start, end, time, and where the data begin in the payload and how long they are; of `k` wal_end, time, and
-- whether a reply is asked for; or the refusal's number
pub data Said : Type 0 where
  w : ℕ → ℕ → ℤ → ℕ → ℕ → Said
  k : ℕ → ℤ → Bool → Said
  refused : ℕ → Said

-- the Int64 of s from place i: a position, and a time
abbrev pub lsn_at : List ℕ → ℕ → ℕ
lsn_at s i = be (at s i 8)

abbrev pub time_at : List ℕ → ℕ → ℤ
time_at s i = int 8 (be (at s i 8))

-- XLogData, of which s follows the letter: Int64 start, Int64 end, Int64 time, Byten data
abbrev pub xlog_of : List ℕ → Said
xlog_of s = pick (ltb (length s) 24) (refused 11) (w (lsn_at s 0) (lsn_at s 8) (time_at s 16) 25 (length s - 24))

-- keepalive, of which s follows the letter: Int64 end, Int64 time, Byte1 reply, of which any but 0 asks for one
abbrev pub keep_alive_of : List ℕ → Said
keep_alive_of s = pick (ltb (length s) 17) (refused 12) (k (lsn_at s 0) (time_at s 8) (not (eqb (get_or s 16 0) 0)))

-- by the letter: `w`, `k`; 10 where there is none, 13 for another
unfoldable pub copy_data_of : List ℕ → Said
copy_data_of [] = refused 10
copy_data_of (letter ∷ s) = pick (eqb letter 119) (xlog_of s) (pick (eqb letter 107) (keep_alive_of s) (refused 13))

-- which of them it is, and whether it is a keepalive that asks for a reply
abbrev pub is_xlog_data : Said → Bool
is_xlog_data (w start end time from len) = true
is_xlog_data (k end time reply) = false
is_xlog_data (refused n) = false

abbrev pub is_keep_alive : Said → Bool
is_keep_alive (w start end time from len) = false
is_keep_alive (k end time reply) = true
is_keep_alive (refused n) = false

abbrev pub asks_reply : Said → Bool
asks_reply (w start end time from len) = false
asks_reply (k end time reply) = reply
asks_reply (refused n) = false

-- the values of a CopyData, and what an answer of the code says
abbrev pub values : CopyData → Said
values (XLogData start end time from len) = w start.0 end.0 time from len
values (KeepAlive end time reply) = k end.0 time reply

abbrev pub said_by : Result CopyData Refusal → Said
said_by (Ok d) = values d
said_by (Err r) = refused (number_of r)

-- the bytes of an XLogData
unfoldable pub xlog_data : ℕ → ℕ → ℤ → List ℕ → List ℕ
xlog_data start end time data_bytes =
    119 ∷ (be_bytes 8 start ++ (be_bytes 8 end ++ (int_bytes 8 time ++ data_bytes)))

-- the bytes of a keepalive with a reply byte
unfoldable pub keep_alive : ℕ → ℤ → ℕ → List ℕ
keep_alive end time reply = 107 ∷ (be_bytes 8 end ++ (int_bytes 8 time ++ (reply ∷ [])))
