-- What each answer about a CopyData payload says, over all values. SCOPE 3.8.
use Rattle.std.specs.Prelude.{◌≡◌, Bool, true, false, ℕ, ℤ, Ok, Err}
use Rattle.error.specs.declared.Refusal.{Refusal}
use Rattle.error.specs.Refusal.{number_of}
use Rattle.lsn.specs.declared.Lsn.{Lsn}
use Rattle.replication.specs.declared.CopyData.TheVariants.{XLogData, KeepAlive}
use Rattle.replication.specs.CopyData.{Said, w, k, refused, said_by, is_xlog_data, is_keep_alive, asks_reply}

-- an answer says its own values in their order
pub record CopyDataSaid : Type 0 where
  pub of_xlog_data : (start end : Lsn) (time : ℤ) (from len : ℕ) → said_by (Ok (XLogData start end time from len)) ≡ w start.0 end.0 time from len
  pub of_keep_alive : (end : Lsn) (time : ℤ) (reply : Bool) → said_by (Ok (KeepAlive end time reply)) ≡ k end.0 time reply
  pub of_refused : (r : Refusal) → said_by (Err r) ≡ refused (number_of r)

-- what is an XLogData, what a keepalive, and what asks for a reply: three tests of each value
abbrev pub tests : Said → Bool × Bool × Bool
tests x = (is_xlog_data x, is_keep_alive x, asks_reply x)

-- an XLogData is one and nothing else, a keepalive is one and asks as it says, a refusal is neither
pub record CopyDataTested : Type 0 where
  pub of_xlog_data : (start end : ℕ) (time : ℤ) (from len : ℕ) → tests (w start end time from len) ≡ (true, false, false)
  pub of_keep_alive : (end : ℕ) (time : ℤ) (reply : Bool) → tests (k end time reply) ≡ (false, true, reply)
  pub of_refused : (n : ℕ) → tests (refused n) ≡ (false, false, false)
