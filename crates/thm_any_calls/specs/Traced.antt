-- Condition 3, calls: each call refuses, takes, writes, hands on and enters the state that the step table gives, from the calls and the server's
-- bytes alone. SCOPE 8.3; 01, "Events and confirmations".
use Rattle.std.specs.Prelude.{◌≡◌, List, [], ◌∷◌, ℕ, length, take, ℤ}
use Rattle.std.proofs.Math.Option.{Option, some, none}
use Rattle.wire.specs.Bytes.{pick}
use Rattle.frontend.specs.Frontend.{status_update, copy_done_message}
use Rattle.lsn.specs.declared.Lsn.{Lsn}
use Rattle.worker.specs.declared.Settings.{Settings}
use Rattle.worker.specs.declared.Input.{Input}
use Rattle.worker.specs.Step.{Outcome, Lent, step_of}
use Rattle.thm_any_calls.specs.Tests.{onto, is_none, since}
use Rattle.thm_any_calls.specs.Happened.{happened_of, Parts}
use Rattle.thm_any_calls.specs.Trace.{Setup, Writing, nothing, done, status, Response, Trace, a_step, a_report, state_after, taken_by, handed_by, observations_of, confirmed_of, takes_pending, pending_since}
use Rattle.thm_any_calls.specs.Calls.{Beginning, Call, step, report, Played, played, lent_to, setup_of}
use Rattle.thm_any_calls.specs.Table.{limit_by, last_message, response_of}

-- ---- the trace of a list of calls

-- one call more
abbrev pub trace_one : Setup → Trace → Call → Trace
trace_one s h (step i n out) = a_step i (state_after s.opening h) (response_of s h i n (length out)) ∷ h
trace_one s h (report file p m) = a_report file p m ∷ h

-- call after call
unfoldable pub trace_all : Setup → Trace → List Call → Trace
trace_all s h [] = h
trace_all s h (c ∷ cs) = trace_all s (trace_one s h c) cs

-- the whole list
abbrev pub trace_of : Setup → List Call → Trace
trace_of s cs = trace_all s [] cs

-- ---- the promise

-- how many bytes are written, and the whole output then
abbrev pub written_by : Writing → Lsn → ℤ → List ℕ → ℕ × List ℕ
written_by nothing position time out = (0, out)
written_by done position time out = (5, onto copy_done_message out)
written_by (status reply) position time out = (39, onto (status_update position.0 time reply) out)

-- how long a confirmed position waited, where a status takes a pending moment
abbrev pub waited_by : Setup → Trace → Input → Writing → Option ℕ
waited_by s h i nothing = none
waited_by s h i done = none
waited_by s h i (status reply) =
    pick (takes_pending s h) (pick (is_none (pending_since s h)) none (some (since i.moment (pending_since s h)))) none

-- a step answers and leaves what the table responds; beyond the stored bytes the payload buffer is as it was, and the parts that an event names
-- lie within the payload of the last whole message
pub record Answers (s : Setup) (h : Trace) (i : Input) (l : Lent) (y : Response) (o : Outcome) : Type 0 where
  pub refusal : o.refusal ≡ y.refusal
  pub taken : o.taken ≡ y.taken
  pub payload : o.payload ≡ onto y.stored l.payload
  pub output : (o.written, o.out) ≡ written_by y.writing (confirmed_of s.start h) i.client_time l.out
  pub waited : o.waited ≡ waited_by s h i y.writing
  pub state : o.run.state ≡ y.entered
  pub event : happened_of o.event o.payload ≡ y.event
  pub parts : Parts o.event (length (last_message (limit_by s) (take (taken_by h) s.bytes)).1)

-- the run is where the trace leads, and took and handed on what stands there
pub record Follows (s : Setup) (h : Trace) (z : Played) : Type 0 where
  pub state : z.run.state ≡ state_after s.opening h
  pub taken : z.taken ≡ taken_by h
  pub events : z.events ≡ handed_by h
  pub observed : z.observed ≡ observations_of h

-- after any list of calls, whatever queue closes; and the next step
pub record Traced (s : Setup) (h : Trace) (z : Played) : Type 0 where
  pub follows : Follows s h z
  pub next : (i : Input) (n : ℕ) (out : List ℕ)
      → let l : Lent = lent_to s.bytes z n out in Answers s h i l (response_of s h i n (length out)) (step_of z.run i l)

-- after any list of calls
abbrev pub CallsTraced : Type 0
CallsTraced =
    (s : Settings) (b : Beginning) (bytes payload : List ℕ) (cs : List Call)
    → let x : Setup = setup_of s b bytes (length payload) in Traced x (trace_of x cs) (played s b bytes payload cs)
