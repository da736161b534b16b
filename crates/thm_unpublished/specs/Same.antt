-- What two calls have in common, where the server's bytes differ in hidden places alone: everything that they answer, but the bytes in the payload
-- buffer. SCOPE 8.12; 02, wish 14.
use Rattle.std.specs.Prelude.{◌≡◌, List, [], ◌∷◌, ℕ, length, get_or, take, replicate}
use Rattle.worker.specs.Step.{Outcome}
use Rattle.thm_any_calls.specs.Happened.{Happened, keep_alive, begin, commit, message, xlog_data, stopped_at, happened_of}

-- as many zeros
abbrev pub blank : List ℕ → List ℕ
blank s = replicate (length s) 0

-- an event with its data or its content left out, of which the length stays
abbrev pub left_out : Happened → Happened
left_out (keep_alive end time reply) = keep_alive end time reply
left_out (begin final time xid) = begin final time xid
left_out (commit position end time) = commit position end time
left_out (message flag position prefix content) = message flag position prefix (blank content)
left_out (xlog_data start end time bytes) = xlog_data start end time (blank bytes)
left_out (stopped_at reached) = stopped_at reached

-- the same of each event of a list
unfoldable pub all_left_out : List Happened → List Happened
all_left_out [] = []
all_left_out (e ∷ es) = left_out e ∷ all_left_out es

-- two calls, each with the output that it was lent: the run, the refusal, the taken count, the event with its places and lengths, how many bytes were
-- written and which, and the waiting time are the same; the whole output is the same wherever it was before; so is the event, its data and content
-- left out
pub record Same (before before' : List ℕ) (o o' : Outcome) : Type 0 where
  pub run : o.run ≡ o'.run
  pub refusal : o.refusal ≡ o'.refusal
  pub taken : o.taken ≡ o'.taken
  pub event : o.event ≡ o'.event
  pub count : o.written ≡ o'.written
  pub written : take o.written o.out ≡ take o'.written o'.out
  pub waited : o.waited ≡ o'.waited
  pub output : (j : ℕ) → get_or before j 0 ≡ get_or before' j 0 → get_or o.out j 0 ≡ get_or o'.out j 0
  pub room : length o.out ≡ length o'.out
  pub buffer : length o.payload ≡ length o'.payload
  pub happened : all_left_out (happened_of o.event o.payload) ≡ all_left_out (happened_of o'.event o'.payload)
