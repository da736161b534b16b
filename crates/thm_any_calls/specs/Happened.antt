-- Two events are the same where kind and numbers are, and the bytes that their parts name in the payload buffer at that time. Plain gives events,
-- Calls collects them. SCOPE 5.6; 01, "Events and confirmations".
use Rattle.std.specs.Prelude.{ℕ, ◌+◌, ◌≤◌, Bool, List, [], ◌∷◌, ℤ}
use Rattle.worker.specs.Events as E
use Rattle.thm_any_calls.specs.Tests.{part}

-- an event as its receiver reads it: row data and messages are bytes, not places in a buffer
pub data Happened : Type 0 where
  keep_alive : ℕ → ℤ → Bool → Happened
  begin : ℕ → ℤ → ℕ → Happened
  commit : ℕ → ℕ → ℤ → Happened
  message : Bool → ℕ → List ℕ → List ℕ → Happened
  xlog_data : ℕ → ℕ → ℤ → List ℕ → Happened
  stopped_at : ℕ → Happened

-- what a step hands on, with the bytes that its parts name in the payload buffer
abbrev pub happened_of : E.Said → List ℕ → List Happened
happened_of E.nothing p = []
happened_of (E.keep_alive end time reply) p = keep_alive end time reply ∷ []
happened_of (E.begin final time xid) p = begin final time xid ∷ []
happened_of (E.commit position end time) p = commit position end time ∷ []
happened_of (E.message flag position pf pl cf cl) p = message flag position (part p pf pl) (part p cf cl) ∷ []
happened_of (E.xlog_data start end time from len) p = xlog_data start end time (part p from len) ∷ []
happened_of (E.stopped_at reached) p = stopped_at reached ∷ []

-- the parts that it names lie within the first n bytes
abbrev pub Parts : E.Said → ℕ → Type 0
Parts E.nothing n = Unit
Parts (E.keep_alive end time reply) n = Unit
Parts (E.begin final time xid) n = Unit
Parts (E.commit position end time) n = Unit
Parts (E.message flag position pf pl cf cl) n = (pf + pl ≤ n) × (cf + cl ≤ n)
Parts (E.xlog_data start end time from len) n = from + len ≤ n
Parts (E.stopped_at reached) n = Unit
