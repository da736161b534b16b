-- One step: the step table, state by state and test by test, and the refusals 2 to 5 before it. SCOPE 6; 01, "Events and confirmations".
use Rattle.std.specs.Prelude.{ℕ, Bool, true, false, not, ltb, List, [], ◌∷◌, length, take, ℤ, ◌==◌, nat_eq, nat_le, nat_lt}
use Rattle.std.proofs.Math.Option.{Option, some, none}
use Rattle.wire.specs.Bytes.{pick, at, put}
use Rattle.framing.specs.Read.{Result, limit_of, read_of}
use Rattle.framing.specs.Read as R
use Rattle.frames.specs.Tag.{is_error, is_copy_both_response}
use Rattle.frontend.specs.Frontend.{status_update, copy_done_message}
use Rattle.lsn.specs.declared.Lsn.{Lsn}
use Rattle.lsn.specs.Position.{is_below}
use Rattle.metrics.specs.Metrics.{more, with_event, with_status, with_reply, with_stall, with_stall_end, with_end}
use Rattle.moment.specs.declared.Moment.{Moment}
use Rattle.moment.specs.Moment.{is_before, in_range, since_of}
use Rattle.pgoutput.specs.Boundary.{boundary_of}
use Rattle.pgoutput.specs.Boundary as B
use Rattle.progress.specs.Progress.{is_none, cell_position, cell_signal, cell_pending, cell_timing, looked_of, reported_of}
use Rattle.replication.specs.CopyData.{copy_data_of}
use Rattle.replication.specs.CopyData as C
use Rattle.worker.specs.declared.State.{State}
use Rattle.worker.specs.declared.State.TheVariants.{Opening, Turn, Drain, Reading, Waiting, Handling, Offering, Ended}
use Rattle.worker.specs.declared.Queue.{Queue}
use Rattle.worker.specs.declared.Queue.TheVariants.{Free, Full, Closed}
use Rattle.worker.specs.declared.Event.{Event}
use Rattle.worker.specs.declared.Event.TheVariants.{Nothing, KeepAlive, Begin, Commit, Message, XLogData, StoppedAt}
use Rattle.worker.specs.declared.Input.{Input}
use Rattle.worker.specs.declared.Run.{Run}
use Rattle.worker.specs.Events.{data_gives}
use Rattle.worker.specs.Events as E
use Rattle.worker.specs.Tests.{◌⇒◌, first_of, both, unless}
use Rattle.worker.specs.Run.{cell_in, lsn, last_status, whole_of, offer, with_state, with_reader, with_cell, with_last_status, with_drained, with_pending, with_whole, with_offer, with_metrics, with_server, accepted, wait_begun, stall_begun, micros}
use Rattle.worker.specs.Streaming.{while_streaming}

-- what a step answers and leaves: the run, the refusal's number (0 for none), the taken count, the event handed on, how many bytes were written,
-- how long a confirmed position waited where that is told, the payload buffer and the output. SCOPE 5.5
pub record Outcome : Type 0 where
  pub run : Run
  pub refusal : ℕ
  pub taken : ℕ
  pub event : E.Said
  pub written : ℕ
  pub waited : Option ℕ
  pub payload : List ℕ
  pub out : List ℕ

-- what a step is lent: unread bytes, payload buffer, output. SCOPE 5.4
pub record Lent : Type 0 where
  pub unread : List ℕ
  pub payload : List ℕ
  pub out : List ℕ

-- ---- the ends of a step

-- an event is handed on; besides it only the run changes
abbrev pub handing : Event → Run → Lent → Outcome
handing e r l = record { run = r; refusal = 0; taken = 0; event = E.said_by e; written = 0; waited = none; payload = l.payload; out = l.out }

abbrev pub moved : Run → Lent → Outcome
moved r l = handing Nothing r l

-- refused with a number
abbrev pub refused_with : ℕ → Run → Lent → Outcome
refused_with n r l = record { run = r; refusal = n; taken = 0; event = E.nothing; written = 0; waited = none; payload = l.payload; out = l.out }

-- a refusal that ends the run. SCOPE 7.3
abbrev pub ended_with : ℕ → Run → Lent → Outcome
ended_with n r l = refused_with n (with_state Ended r) l

-- a CopyDone is written, and the run ends
abbrev pub done_with : Event → Run → Lent → Outcome
done_with e r l =
    record {
      run = with_state Ended r;
      refusal = 0;
      taken = 0;
      event = E.said_by e;
      written = 5;
      waited = none;
      payload = l.payload;
      out = put l.out 0 copy_done_message;
    }

-- the outcome with its taken count and its payload buffer
abbrev pub having : ℕ → List ℕ → Outcome → Outcome
having k p o =
    record { run = o.run; refusal = o.refusal; taken = k; event = o.event; written = o.written; waited = o.waited; payload = p; out = o.out }

-- ---- status: SCOPE 4.2, 4.3

-- the status interval has passed since the last status
abbrev pub interval_passed : Run → Bool
interval_passed r = nat_le r.settings.status_interval (since_of r.clock.last r.status.at)

-- no status was sent yet, or the position rose above the one last sent
abbrev pub is_above : Run → Bool
is_above r = pick r.status.sent (is_below r.status.position (cell_position (cell_in r))) true

-- with timing on, such a status takes the pending moment
abbrev pub takes_pending : Run → Bool
takes_pending r = pick (cell_timing (cell_in r)) (is_above r) false

-- how long the report has waited whose moment is pending
abbrev pub waited_by : Run → Option ℕ
waited_by r =
    pick (takes_pending r)
    (pick (is_none (cell_pending (cell_in r))) none (some (since_of r.clock.last (cell_pending (cell_in r)))))
    none

-- the run after a status
abbrev pub confirmed : Run → Run
confirmed r =
    with_metrics (with_status r.metrics (cell_position (cell_in r)))
    (with_last_status (last_status true (cell_position (cell_in r)) r.clock.last)
    (with_cell (pick (takes_pending r) (reported_of (cell_in r) (cell_position (cell_in r)) r.clock.last).cell (cell_in r)) r))

-- a status with a reply byte; it confirms the cell's position
unfoldable pub feedback_of : Bool → State → Run → Input → Lent → Outcome
feedback_of reply to r i l =
    record {
      run = with_state to (confirmed r);
      refusal = 0;
      taken = 0;
      event = E.nothing;
      written = 39;
      waited = waited_by r;
      payload = l.payload;
      out = put l.out 0 (status_update (cell_position (cell_in r)).0 i.client_time reply);
    }

-- ---- Opening: SCOPE 6.3

-- CopyBothResponse begins the stream; ErrorResponse ends the run with 19, and its payload's length is kept for `error_part`; others are skipped
abbrev pub opening_by : R.Said → Run → Lent → Outcome
opening_by R.more r l = moved r l
opening_by (R.whole tag n) r l =
    first_of
    ((is_copy_both_response tag ⇒ moved (with_state Turn r) l)
    ∷ (is_error tag ⇒ ended_with 19 (with_whole (whole_of tag n false) r) l)
    ∷ [])
    (moved r l)
opening_by (R.refused n) r l = ended_with n r l

-- a read of the bytes that the reader's message lacks
abbrev pub read_by : Run → Input → Lent → Result
read_by r i l = read_of r.settings.max_message_size r.reader l.unread i.ended l.payload

-- the step that makes a message whole tests it, too
unfoldable pub opening_of : Run → Input → Lent → Outcome
opening_of r i l = let x : Result = read_by r i l in having x.2 x.3 (opening_by x.0 (with_reader x.1 r) l)

-- ---- Turn: SCOPE 6.4

abbrev pub status_due : Run → Bool
status_due r = pick r.status.sent (interval_passed r) true

-- a status where it is due; the count of drained messages begins anew
unfoldable pub turn_of : Run → Input → Lent → Outcome
turn_of r i l =
    let none_drained : Run = with_drained 0 r in
    pick (status_due r) (feedback_of false Drain none_drained i l)
    (moved (with_state Drain none_drained) l)

-- ---- Drain: SCOPE 6.5

-- the wait begins: the signal is cleared, and whether a position is pending is fixed
abbrev pub waits : Run → Run
waits r = with_state Waiting (wait_begun (with_pending (is_above r) (with_cell (looked_of (cell_in r)).cell r)))

-- a round has at most 256 messages; stop is looked at only after one of them
unfoldable pub drain_of : Run → Input → Lent → Outcome
drain_of r i l =
    first_of
    ((both (nat_lt r.drained 256) (nat_le 5 (length l.unread)) ⇒ moved (with_state Reading r) l)
    ∷ (nat_eq r.drained 0 ⇒ moved (waits r) l)
    ∷ (i.stop ⇒ done_with Nothing r l)
    ∷ [])
    (moved (with_state Turn r) l)

-- ---- Reading: SCOPE 6.6

-- the next step handles the message
abbrev pub to_handle : ℕ → ℕ → Bool → Run → Run
to_handle tag n in_wait r = with_state Handling (with_whole (whole_of tag n in_wait) r)

abbrev pub reading_by : R.Said → Run → Lent → Outcome
reading_by R.more r l = moved r l
reading_by (R.whole tag n) r l = moved (to_handle tag n false (with_drained (more r.drained 1) r)) l
reading_by (R.refused n) r l = ended_with n r l

-- neither stop nor clock is looked at
unfoldable pub reading_of : Run → Input → Lent → Outcome
reading_of r i l = let x : Result = read_by r i l in having x.2 x.3 (reading_by x.0 (with_reader x.1 r) l)

-- ---- Waiting: SCOPE 6.7

-- the idle interval since the wait's beginning ends the wait with a status
abbrev pub idle_of : Run → Input → Lent → Outcome
idle_of r i l =
    pick (nat_le r.settings.idle_wakeup_interval (since_of r.clock.last r.clock.wait_began)) (feedback_of false Turn r i l)
    (moved r l)

abbrev pub waiting_by : R.Said → Run → Input → Lent → Outcome
waiting_by R.more r i l = idle_of r i l
waiting_by (R.whole tag n) r i l = moved (to_handle tag n true r) l
waiting_by (R.refused n) r i l = ended_with n r l

abbrev pub waiting_read : Run → Input → Lent → Outcome
waiting_read r i l = let x : Result = read_by r i l in having x.2 x.3 (waiting_by x.0 (with_reader x.1 r) i l)

abbrev pub is_readable : Input → Lent → Bool
is_readable i l = pick (length l.unread == 0) i.ended true

-- in this order: stop; a pending position whose interval has passed; the signal, where none is pending; a read; the idle interval
unfoldable pub waiting_of : Run → Input → Lent → Outcome
waiting_of r i l =
    first_of
    ((i.stop ⇒ done_with Nothing r l)
    ∷ (both r.pending (interval_passed r) ⇒ feedback_of false Turn r i l)
    ∷ (unless r.pending (cell_signal (cell_in r)) ⇒ moved (with_state Turn r) l)
    ∷ (is_readable i l ⇒ waiting_read r i l)
    ∷ [])
    (idle_of r i l)

-- ---- Handling: SCOPE 6.8

-- after a message the run drains on, or begins a new round where the message was read in a wait
abbrev pub back : Run → Run
back r = with_state (pick r.whole.in_wait Turn Drain) r

-- an event is offered; a flag says whether StoppedAt follows it. Its message was handled without refusal, so that the server's end which the
-- message told is from now on the one that a page shows. SCOPE 5.12; 02, wish 9
abbrev pub offers : Event → Bool → Lsn → Run → Run
offers e stops reached r = with_state Offering (with_server r.metrics.last_wal_end (with_offer (offer e false stops reached) r))

-- a position at or above the stop position. SCOPE 6.12
abbrev pub reaches : Run → Lsn → Bool
reaches r p = pick r.settings.has_stop (not (is_below p r.settings.stop_at_lsn)) false

-- an event that reaches a position
abbrev pub offers_at : Event → Lsn → Run → Lent → Outcome
offers_at e p r l = moved (offers e (reaches r p) p r) l

-- a keepalive reaches no position; where it asks for a reply, a status with reply byte 1 goes before its event
abbrev pub keep_alive_by : ℕ → ℤ → Bool → Run → Input → Lent → Outcome
keep_alive_by end time reply r i l =
    let offered : Run = offers (KeepAlive (lsn end) time reply) false (lsn 0) r in
    pick reply (feedback_of true Offering (with_metrics (with_reply offered.metrics) offered) i l) (moved offered l)

-- the event of an XLogData's data is offered, or their refusal ends the run
abbrev pub given_of : E.Given → Run → Lent → Outcome
given_of (E.given e reached) r l = offers_at e reached r l
given_of (E.refused n) r l = ended_with n r l

-- the boundary in the data says which event is offered
abbrev pub boundary_by : B.Said → ℕ → ℕ → ℤ → ℕ → ℕ → Run → Lent → Outcome
boundary_by b start end time from len r l = given_of (data_gives b start end time from len) r l

abbrev pub copy_data_by : C.Said → Run → Input → Lent → Outcome
copy_data_by (C.k end time reply) r i l = keep_alive_by end time reply (with_metrics (with_end r.metrics (lsn end)) r) i l
copy_data_by (C.w start end time from len) r i l =
    boundary_by (boundary_of (at l.payload from len)) start end time from len (with_metrics (with_end r.metrics (lsn end)) r) l
copy_data_by (C.refused n) r i l = ended_with n r l

-- no byte is taken: ErrorResponse is 19; the server's CopyDone is answered in kind, and the run ends; CopyData gives its event; others are skipped
unfoldable pub handling_of : Run → Input → Lent → Outcome
handling_of r i l =
    while_streaming r.whole.tag
    (ended_with 19 r l)
    (done_with Nothing r l)
    (copy_data_by (copy_data_of (take r.whole.len l.payload)) r i l)
    (moved (back r) l)

-- ---- Offering: SCOPE 6.9

abbrev pub is_stopped_at : Event → Bool
is_stopped_at Nothing = false
is_stopped_at (KeepAlive end time reply) = false
is_stopped_at (Begin final time xid) = false
is_stopped_at (Commit position end time) = false
is_stopped_at (Message flag position pf pl cf cl) = false
is_stopped_at (XLogData start end time from len) = false
is_stopped_at (StoppedAt reached) = true

-- after an event that reached the stop position StoppedAt is offered; after any other the run goes back
abbrev pub after_event : Run → Run
after_event r = pick r.offer.stops (offers (StoppedAt r.offer.reached) false (lsn 0) r) (back r)

-- an event is handed on, or Nothing where it is dropped; with StoppedAt the run ends
abbrev pub next_event : Event → Run → Lent → Outcome
next_event e r l = pick (is_stopped_at r.offer.event) (done_with e r l) (handing e (after_event r) l)

abbrev pub hands_on : Run → Lent → Outcome
hands_on r l = next_event r.offer.event (with_metrics (with_event r.metrics) r) l

abbrev pub drops : Run → Lent → Outcome
drops r l = next_event Nothing r l

abbrev pub stall_ended : Run → Run
stall_ended r = with_metrics (with_stall_end r.metrics (micros (since_of r.clock.last r.clock.stall_began))) r

abbrev pub stalls : Run → Run
stalls r =
    with_metrics (with_stall r.metrics) (stall_begun (with_offer (offer r.offer.event true r.offer.stops r.offer.reached) r))

abbrev pub stalled_by : Queue → Run → Input → Lent → Outcome
stalled_by Free r i l = hands_on (stall_ended r) l
stalled_by Closed r i l = drops (stall_ended r) l
stalled_by Full r i l = pick (interval_passed r) (feedback_of false Offering r i l) (moved r l)

-- a later try, or the first after it has begun a stall: stop comes before the queue
unfoldable pub stalled_of : Run → Input → Lent → Outcome
stalled_of r i l = pick i.stop (done_with Nothing r l) (stalled_by i.queue r i l)

abbrev pub first_offer_by : Queue → Run → Input → Lent → Outcome
first_offer_by Free r i l = hands_on r l
first_offer_by Closed r i l = drops r l
first_offer_by Full r i l = stalled_of (stalls r) i l

-- a first try, whose stall has not begun, looks at the queue alone; a full queue begins the stall
unfoldable pub offering_of : Run → Input → Lent → Outcome
offering_of r i l = pick r.offer.stalled (stalled_of r i l) (first_offer_by i.queue r i l)

-- ---- one step

-- the case of a state
unfoldable pub step_in : State → Run → Input → Lent → Outcome
step_in Opening r i l = opening_of r i l
step_in Turn r i l = turn_of r i l
step_in Drain r i l = drain_of r i l
step_in Reading r i l = reading_of r i l
step_in Waiting r i l = waiting_of r i l
step_in Handling r i l = handling_of r i l
step_in Offering r i l = offering_of r i l
step_in Ended r i l = refused_with 2 r l

abbrev pub is_ended : State → Bool
is_ended Opening = false
is_ended Turn = false
is_ended Drain = false
is_ended Reading = false
is_ended Waiting = false
is_ended Handling = false
is_ended Offering = false
is_ended Ended = true

-- 5: a moment that is none, or that lies before the last accepted one
abbrev pub bad_moment : Run → Moment → Bool
bad_moment r m = pick (in_range m) (is_before m r.clock.last) true

-- 2 to 5 change nothing; then the state's case
unfoldable pub step_of : Run → Input → Lent → Outcome
step_of r i l =
    first_of
    ((is_ended r.state ⇒ refused_with 2 r l)
    ∷ (ltb (length l.payload) (limit_of r.settings.max_message_size) ⇒ refused_with 3 r l)
    ∷ (ltb (length l.out) 39 ⇒ refused_with 4 r l)
    ∷ (bad_moment r i.moment ⇒ refused_with 5 r l)
    ∷ [])
    (step_in r.state (accepted i.moment r) i l)
