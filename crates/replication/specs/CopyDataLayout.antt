-- The layout of XLogData and keepalive, both ways: what is sent is read as what it says, and what is read was sent so. Positions are below 2 ^ 64, a
-- time is a signed number of 64 bits, payloads are bytes. SCOPE 3.8.
use Rattle.std.specs.Prelude.{◌≡◌, Bool, true, not, List, ◌++◌, ℕ, ◌<◌, ◌^◌, length, ℤ, eqb}
use Rattle.std.specs.Int.Signed.{mag}
use Rattle.std.proofs.Math.Pow.{are_bytes}
use Rattle.wire.specs.Bytes.{at}
use Rattle.replication.specs.CopyData.{w, k, copy_data_of, xlog_data, keep_alive}

-- every XLogData is read as its values, and the part that is named is its data, which is all that follows
abbrev pub XLogDataIsRead : Type 0
XLogDataIsRead =
    (start end : ℕ) (time : ℤ) (sent : List ℕ) → start < 2 ^ 64 → end < 2 ^ 64 → mag time < 2 ^ 63
    → (copy_data_of (xlog_data start end time sent) ≡ w start end time 25 (length sent)) × (at (xlog_data start end time sent) 25 (length sent) ≡ sent)

-- the payload is the XLogData of these values; its data has len bytes and begins at a place
pub record SentXLogData (payload : List ℕ) (start end : ℕ) (time : ℤ) (from len : ℕ) : Type 0 where
  pub start_fits : start < 2 ^ 64
  pub end_fits : end < 2 ^ 64
  pub time_fits : mag time < 2 ^ 63
  pub there : length (at payload from len) ≡ len
  pub whole : payload ≡ xlog_data start end time (at payload from len)

-- what is read as XLogData was sent so
abbrev pub ReadIsXLogData : Type 0
ReadIsXLogData =
    (payload : List ℕ) (start end : ℕ) (time : ℤ) (from len : ℕ) → are_bytes payload ≡ true → copy_data_of payload ≡ w start end time from len
    → SentXLogData payload start end time from len

-- every keepalive is read as its values, whatever follows
abbrev pub KeepAliveIsRead : Type 0
KeepAliveIsRead =
    (end : ℕ) (time : ℤ) (byte : ℕ) (surplus : List ℕ) → end < 2 ^ 64 → mag time < 2 ^ 63 → byte < 256
    → copy_data_of (keep_alive end time byte ++ surplus) ≡ k end time (not (eqb byte 0))

-- the payload is the keepalive of these values, with a reply byte that asks for a reply or not, and a surplus
pub record SentKeepAlive (payload : List ℕ) (end : ℕ) (time : ℤ) (reply : Bool) : Type 0 where
  pub end_fits : end < 2 ^ 64
  pub time_fits : mag time < 2 ^ 63
  pub byte : ℕ
  pub byte_fits : byte < 256
  pub asks : reply ≡ not (eqb byte 0)
  pub surplus : List ℕ
  pub whole : payload ≡ keep_alive end time byte ++ surplus

-- what is read as a keepalive was sent so
abbrev pub ReadIsKeepAlive : Type 0
ReadIsKeepAlive =
    (payload : List ℕ) (end : ℕ) (time : ℤ) (reply : Bool) → are_bytes payload ≡ true → copy_data_of payload ≡ k end time reply
    → SentKeepAlive payload end time reply
