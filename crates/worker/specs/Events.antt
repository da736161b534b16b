-- Events: kind and values of each, and what the data of an XLogData give. SCOPE 5.6; 01, "Events and confirmations".
use Rattle.std.specs.Prelude.{ℕ, ◌+◌, Bool, ℤ, Result, Ok, Err}
use Rattle.error.specs.Refusal.{number_of}
use Rattle.error.specs.declared.Refusal.{Refusal}
use Rattle.lsn.specs.declared.Lsn.{Lsn}
use Rattle.pgoutput.specs.Boundary as B
use Rattle.worker.specs.declared.DataEvent.{DataEvent}
use Rattle.worker.specs.declared.Event.{Event}
use Rattle.worker.specs.declared.Event.TheVariants.{Nothing, KeepAlive, Begin, Commit, Message, XLogData, StoppedAt}
use Rattle.worker.specs.Run.{lsn}

-- what a step hands on: positions and times as numbers; prefix, content and data by the place at which they begin in the payload buffer and
-- by their length
pub data Said : Type 0 where
  nothing : Said
  keep_alive : ℕ → ℤ → Bool → Said
  begin : ℕ → ℤ → ℕ → Said
  commit : ℕ → ℕ → ℤ → Said
  message : Bool → ℕ → ℕ → ℕ → ℕ → ℕ → Said
  xlog_data : ℕ → ℕ → ℤ → ℕ → ℕ → Said
  stopped_at : ℕ → Said

-- what an answer of the code says
abbrev pub said_by : Event → Said
said_by Nothing = nothing
said_by (KeepAlive end time reply) = keep_alive end.0 time reply
said_by (Begin final time xid) = begin final.0 time xid
said_by (Commit position end time) = commit position.0 end.0 time
said_by (Message flag position pf pl cf cl) = message flag position.0 pf pl cf cl
said_by (XLogData start end time from len) = xlog_data start.0 end.0 time from len
said_by (StoppedAt reached) = stopped_at reached.0

-- ---- the data of an XLogData

-- an event and the position that it reaches, or a refusal
pub data Given : Type 0 where
  given : Event → Lsn → Given
  refused : ℕ → Given

-- what an answer of the code says
abbrev pub given_by : Result DataEvent Refusal → Given
given_by (Ok d) = given d.event d.reached
given_by (Err r) = refused (number_of r)

-- by the boundary in the data, with start, end and time of their XLogData, the place at which they begin in the payload buffer and their length:
-- Begin reaches its final position, Commit its end, Message and other data the server's end. SCOPE 6.12; 01, "Stop position"
abbrev pub data_gives : B.Said → ℕ → ℕ → ℤ → ℕ → ℕ → Given
data_gives (B.begin final time xid) start end wal_time from len = given (Begin (lsn final) time xid) (lsn final)
data_gives (B.commit position commit_end time) start end wal_time from len =
    given (Commit (lsn position) (lsn commit_end) time) (lsn commit_end)
data_gives (B.message flag position pf pl cf cl) start end wal_time from len =
    given (Message flag (lsn position) (from + pf) pl (from + cf) cl) (lsn end)
data_gives B.no_boundary start end wal_time from len = given (XLogData (lsn start) (lsn end) wal_time from len) (lsn end)
data_gives (B.refused n) start end wal_time from len = refused n
