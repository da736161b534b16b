-- The trace of a list of calls: each step with its input, the state that the step table found and what the table responded, and each report;
-- the newest call first. It holds nothing of a run. Below stand the questions that the step table asks of it. SCOPE 8.3; 01, "Events and
-- confirmations".
use Rattle.std.specs.Prelude.{ℕ, ◌+◌, min, max, Bool, true, false, List, [], ◌∷◌, ◌++◌, eqb}
use Rattle.std.proofs.Math.Option.{some, none}
use Rattle.wire.specs.Bytes.{pick}
use Rattle.lsn.specs.declared.Lsn.{Lsn}
use Rattle.moment.specs.declared.Moment.{Moment}
use Rattle.worker.specs.declared.Input.{Input}
use Rattle.worker.specs.declared.Settings.{Settings}
use Rattle.worker.specs.declared.State.{State}
use Rattle.worker.specs.declared.State.TheVariants.{Opening, Turn, Drain, Reading, Waiting, Handling, Offering}
use Rattle.thm_any_calls.specs.Tests.{both, unless, is_in, lsn, is_below, no_moment, is_none, longest}
use Rattle.thm_any_calls.specs.Happened.{Happened}
use Rattle.thm_any_calls.specs.Plain.{Bounds, Observation, is_refused_early, is_full}

-- what a run is begun with (its settings, whether in Opening or already open, its start), the server's bytes, the payload buffer's length
pub record Setup : Type 0 where
  pub settings : Settings
  pub opening : Bool
  pub start : Lsn
  pub bytes : List ℕ
  pub room : ℕ

-- the settings of the plain reading
abbrev pub bounds_of : Settings → Bounds
bounds_of s = record { stop = pick s.has_stop (some s.stop_at_lsn.0) none; limit = longest s.max_message_size }

-- ---- responses

-- what a step writes: nothing, a CopyDone, or a status with a reply byte
pub data Writing : Type 0 where
  nothing done : Writing
  status : Bool → Writing

-- a status is written
abbrev pub is_status : Writing → Bool
is_status nothing = false
is_status done = false
is_status (status reply) = true

-- a status with reply byte 1
abbrev pub is_reply : Writing → Bool
is_reply nothing = false
is_reply done = false
is_reply (status reply) = reply

-- what a step answers and leaves: its refusal (0 for none), its taken count, the payload bytes that then stand at the buffer's front, what it
-- writes, the state that it enters, and the event that it hands on, if any
pub record Response : Type 0 where
  pub refusal : ℕ
  pub taken : ℕ
  pub stored : List ℕ
  pub writing : Writing
  pub entered : State
  pub event : List Happened

-- ---- traces

-- a step with its input, the state that it found and its response; a report with its file, position and moment
pub data Entry : Type 0 where
  a_step : Input → State → Response → Entry
  a_report : ℕ → Lsn → Moment → Entry

-- the newest stands first
abbrev pub Trace : Type 0
Trace = List Entry

-- the state that the last step entered
unfoldable pub state_after : Bool → Trace → State
state_after opening [] = pick opening Opening Turn
state_after opening (a_step i from y ∷ h) = y.entered
state_after opening (a_report file p m ∷ h) = state_after opening h

-- how many bytes were taken
unfoldable pub taken_by : Trace → ℕ
taken_by [] = 0
taken_by (a_step i from y ∷ h) = taken_by h + y.taken
taken_by (a_report file p m ∷ h) = taken_by h

-- the events handed on, the oldest first
unfoldable pub handed_by : Trace → List Happened
handed_by [] = []
handed_by (a_step i from y ∷ h) = handed_by h ++ y.event
handed_by (a_report file p m ∷ h) = handed_by h

-- what the plain reading observes, the oldest step first
unfoldable pub observations_of : Trace → List Observation
observations_of [] = []
observations_of (a_step i from y ∷ h) =
    observations_of h ++ (record { stop = i.stop; queue = i.queue; refusal = y.refusal; taken = y.taken } ∷ [])
observations_of (a_report file p m ∷ h) = observations_of h

-- a step went from a to b
abbrev pub went : State → State → State → State → Bool
went a b from to = pick (is_in a from) (is_in b to) false

-- ---- positions and moments

-- the largest of the start and the positions that one file reported so far
unfoldable pub reached_by : ℕ → Lsn → Trace → ℕ
reached_by n start [] = start.0
reached_by n start (a_step i from y ∷ h) = reached_by n start h
reached_by n start (a_report file p m ∷ h) = pick (eqb file n) (max (reached_by n start h) p.0) (reached_by n start h)

-- the smallest of that over the files 0 to 3, which is what a status confirms; a report of any other number is refused and counts for nothing
unfoldable pub confirmed_of : Lsn → Trace → Lsn
confirmed_of start h = lsn (min (min (reached_by 0 start h) (reached_by 1 start h)) (min (reached_by 2 start h) (reached_by 3 start h)))

-- a report raises it
abbrev pub raises : Lsn → ℕ → Lsn → Moment → Trace → Bool
raises start file p m h = is_below (confirmed_of start h) (confirmed_of start (a_report file p m ∷ h))

-- the moment of the last step that was not refused with 2 to 5
unfoldable pub last_accepted : Trace → Moment
last_accepted [] = no_moment
last_accepted (a_step i from y ∷ h) = pick (is_refused_early y.refusal) (last_accepted h) i.moment
last_accepted (a_report file p m ∷ h) = last_accepted h

-- whether a status was written, when the last was, and what it confirmed
unfoldable pub has_sent : Trace → Bool
has_sent [] = false
has_sent (a_step i from y ∷ h) = pick (is_status y.writing) true (has_sent h)
has_sent (a_report file p m ∷ h) = has_sent h

-- when the last status was written
unfoldable pub sent_at : Trace → Moment
sent_at [] = no_moment
sent_at (a_step i from y ∷ h) = pick (is_status y.writing) i.moment (sent_at h)
sent_at (a_report file p m ∷ h) = sent_at h

-- what the last status confirmed
unfoldable pub sent_position : Lsn → Trace → Lsn
sent_position start [] = lsn 0
sent_position start (a_step i from y ∷ h) = pick (is_status y.writing) (confirmed_of start h) (sent_position start h)
sent_position start (a_report file p m ∷ h) = sent_position start h

-- no status was sent, or the position is above the last sent
abbrev pub is_above_sent : Lsn → Trace → Bool
is_above_sent start h = pick (has_sent h) (is_below (sent_position start h) (confirmed_of start h)) true

-- a status takes the pending moment: with timing on, where it is the first or its position is above the last sent
abbrev pub takes_pending : Setup → Trace → Bool
takes_pending s h = both s.settings.timing (is_above_sent s.start h)

-- the pending moment, of the first report that raised the smallest since a status took the last one; 0 stands for none
unfoldable pub pending_since : Setup → Trace → Moment
pending_since s [] = no_moment
pending_since s (a_step i from y ∷ h) = pick (both (is_status y.writing) (takes_pending s h)) no_moment (pending_since s h)
pending_since s (a_report file p m ∷ h) =
    pick (both s.settings.timing (both (raises s.start file p m h) (is_none (pending_since s h)))) m (pending_since s h)

-- ---- the wait, which a step of Drain begins

-- its moment
unfoldable pub wait_began : Trace → Moment
wait_began [] = no_moment
wait_began (a_step i from y ∷ h) = pick (went Drain Waiting from y.entered) i.moment (wait_began h)
wait_began (a_report file p m ∷ h) = wait_began h

-- "pending" as it was fixed then
unfoldable pub pending_of : Lsn → Trace → Bool
pending_of start [] = false
pending_of start (a_step i from y ∷ h) = pick (went Drain Waiting from y.entered) (is_above_sent start h) (pending_of start h)
pending_of start (a_report file p m ∷ h) = pending_of start h

-- "signalled": a report since then raised the smallest
unfoldable pub signalled_of : Lsn → Trace → Bool
signalled_of start [] = false
signalled_of start (a_step i from y ∷ h) = pick (went Drain Waiting from y.entered) false (signalled_of start h)
signalled_of start (a_report file p m ∷ h) = pick (raises start file p m h) true (signalled_of start h)

-- ---- messages and offers

-- how many messages were drained: whole in Reading, since the last step of Turn
unfoldable pub drained_of : Trace → ℕ
drained_of [] = 0
drained_of (a_step i from y ∷ h) =
    pick (went Turn Drain from y.entered) 0 (pick (went Reading Handling from y.entered) (drained_of h + 1) (drained_of h))
drained_of (a_report file p m ∷ h) = drained_of h

-- the message that was read last outside Opening was read in a wait: the step that entered Handling came from Waiting
unfoldable pub read_in_wait : Trace → Bool
read_in_wait [] = false
read_in_wait (a_step i from y ∷ h) =
    pick (went Waiting Handling from y.entered) true (pick (went Reading Handling from y.entered) false (read_in_wait h))
read_in_wait (a_report file p m ∷ h) = read_in_wait h

-- an accepted step offered an event, and after it another is offered, or the same
abbrev pub offers_on : State → Response → Bool
offers_on from y = unless (is_refused_early y.refusal) (went Offering Offering from y.entered)

-- the queue was full at an earlier offer of the event: it is not its first try
unfoldable pub full_before : Trace → Bool
full_before [] = false
full_before (a_step i from y ∷ h) =
    pick (went Handling Offering from y.entered) false (pick (offers_on from y) (is_full i.queue) (full_before h))
full_before (a_report file p m ∷ h) = full_before h

-- how many events of the message were handed on or dropped since it was handled
unfoldable pub gone_of : Trace → ℕ
gone_of [] = 0
gone_of (a_step i from y ∷ h) =
    pick (went Handling Offering from y.entered) 0 (pick (offers_on from y) (pick (is_full i.queue) (gone_of h) (gone_of h + 1)) (gone_of h))
gone_of (a_report file p m ∷ h) = gone_of h
