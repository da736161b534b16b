-- The answer keeps its promise, state by state.
use Prim.Native.Nat.{ℕ, ◌<◌, ◌≤◌, min}
use native.Mathlib.Omega.{arith}
use borrow.Author.Tests.{le-ltb}
use mathlib.Core.Bool.{Bool, true, false}
use mathlib.Core.Path.{◌≡◌, refl, sym, ap, ◌∙◌}
use mathlib.Core.List.{List}
use lib.ListN.{length, get_or, take}
use lib.IntN.{ℤ}
use lib.Dec.{ltb, leb, eqb}
use Rattle.wire.specs.Bytes.{pick, at}
use Rattle.wire.proofs.Laws.{impossible}
use Rattle.framing.specs.declared.MessageReader.{MessageReader}
use Rattle.framing.specs.Read.{Result, fresh, limit_of}
use Rattle.framing.specs.Read as R
use Rattle.frames.specs.Tag.{is_error, is_copy_both_response, is_copy_data}
use Rattle.metrics.specs.Metrics.{with_event, with_end}
use Rattle.moment.specs.declared.Moment.{Moment}
use Rattle.moment.specs.Moment.{since_of}
use Rattle.pgoutput.specs.Boundary.{boundary_of}
use Rattle.pgoutput.specs.Boundary as B
use Rattle.replication.specs.CopyData.{copy_data_of}
use Rattle.replication.specs.CopyData as C
use Rattle.worker.specs.declared.Event.{Event}
use Rattle.worker.specs.declared.Event.TheVariants.{Nothing, StoppedAt}
use Rattle.worker.specs.declared.Input.{Input}
use Rattle.worker.specs.declared.Queue.{Queue}
use Rattle.worker.specs.declared.Queue.TheVariants.{Free, Full, Closed}
use Rattle.worker.specs.declared.Run.{Run}
use Rattle.worker.specs.declared.State.{State}
use Rattle.worker.specs.declared.State.TheVariants.{Opening, Turn, Drain, Reading, Waiting, Handling, Offering, Ended}
use Rattle.worker.specs.Run.{lsn, with_state, whole_of, with_drained, with_metrics, with_reader, with_whole, accepted}
use Rattle.worker.specs.Streaming.{is_copy_done}
use Rattle.worker.specs.Step.{Lent, Outcome, back, after_event, boundary_by, copy_data_by, done_with, drain_of, ended_with, handing, handling_of, having, idle_of, interval_passed, is_ended, is_stopped_at, moved, offering_of, offers, opening_by, opening_of, reading_by, reading_of, refused_with, stall_ended, stalled_of, stalls, step_in, status_due, feedback_of, step_of, turn_of, waiting_of}
use Rattle.schedule.specs.NextStep.{Next, at_once, on_input, never, beyond, by_clock, idle_moment, is_whole, next_step_of, offering_next, opening_next, reading_next, state_next, status_moment, waiting_next}
use Rattle.schedule.specs.Promise.{Moves, leaves, writes, passes, Stays, NotBoth, Promised, quiet, no_byte, NextStepPromised, NeverIsEnded, EndedIsNever}
use Rattle.schedule.proofs.Clock.{Timed, by_clock_lem, good_moment, in_range_lem, one_clock, passed_by, two_clocks}
use Rattle.schedule.proofs.Read.{quiet_read, read_quietly}

-- one of two outcomes
either : {r : Run} (b : Bool) {x y : Outcome} → Moves r x → Moves r y → Moves r (pick b x y)
either true hx hy = hx
either false hx hy = hy

pub not_both : NotBoth
not_both r n q o (leaves f) s = f s.same_state
not_both r n q o (writes h) s = let z : o.written ≡ 0 = s.none_written in omega arith
not_both r n q o (passes f) s = f s.same_offer

module _ (r : Run) (p out : List ℕ) (time : ℤ) (m : Moment) where
  abbrev l : Lent
  l = no_byte p out

  abbrev i : Queue → Input
  i q = quiet m time q

  abbrev now : Run
  now = accepted m r

  -- what is to be shown of an answer, and of a due moment
  abbrev Says : Queue → Next → Outcome → Type 0
  Says q a o = Promised a m.0 r (length p) q o

  abbrev Due : ℕ → Queue → Outcome → Type 0
  Due d q o = Timed d m.0 r (length p) q o

  status_moves : (q : Queue) (reply : Bool) (to : State) (x : Run) → Moves r (feedback_of reply to x (i q) l)
  unfolding feedback_of
  status_moves q reply to x = writes (omega arith)

  -- ---- Turn, Drain, Handling

  turn_moves : (q : Queue) → r.state ≡ Turn → Moves r (turn_of now (i q) l)
  unfolding turn_of
  turn_moves q h = either (status_due now) (status_moves q false Drain (with_drained 0 now)) (leaves (λ e. impossible cc))

  drain_moves : (q : Queue) → r.state ≡ Drain → Moves r (drain_of now (i q) l)
  unfolding drain_of
  drain_moves q h =
      either (pick (ltb r.drained 256) false false) (leaves (λ e. impossible cc))
      (either (eqb r.drained 0) (leaves (λ e. impossible cc)) (leaves (λ e. impossible cc)))

  -- back to Drain, or to Turn after a wait
  back_moves : (s : State) (e : Event) (wait : Bool) (x : Run) → r.state ≡ s → (Turn ≡ s → ⊥) → (Drain ≡ s → ⊥)
      → Moves r (handing e (with_state (pick wait Turn Drain) x) l)
  back_moves s e true x h turn drain = leaves (λ k. turn (k ∙ h))
  back_moves s e false x h turn drain = leaves (λ k. drain (k ∙ h))

  boundary_moves : (a : B.Said) (start end : ℕ) (t : ℤ) (place len : ℕ) (x : Run) → r.state ≡ Handling
      → Moves r (boundary_by a start end t place len x l)
  boundary_moves (B.begin final t xid) start end wt place len x h = leaves (λ e. impossible cc)
  boundary_moves (B.commit c ce t) start end wt place len x h = leaves (λ e. impossible cc)
  boundary_moves (B.message flag c pf pl cf cl) start end wt place len x h = leaves (λ e. impossible cc)
  boundary_moves B.no_boundary start end wt place len x h = leaves (λ e. impossible cc)
  boundary_moves (B.refused n) start end wt place len x h = leaves (λ e. impossible cc)

  copy_data_moves : (q : Queue) (a : C.Said) (x : Run) → r.state ≡ Handling → Moves r (copy_data_by a x (i q) l)
  unfolding feedback_of
  copy_data_moves q (C.k end t reply) x h = either reply (writes (omega arith)) (leaves (λ e. impossible cc))
  copy_data_moves q (C.w start end t place len) x h =
      boundary_moves (boundary_of (at p place len)) start end t place len (with_metrics (with_end x.metrics (lsn end)) x) h
  copy_data_moves q (C.refused n) x h = leaves (λ e. impossible cc)

  handling_moves : (q : Queue) → r.state ≡ Handling → Moves r (handling_of now (i q) l)
  unfolding handling_of
  handling_moves q h =
      either (is_error r.whole.tag) (leaves (λ e. impossible cc))
      (either (is_copy_done r.whole.tag) (leaves (λ e. impossible cc))
      (either (is_copy_data r.whole.tag) (copy_data_moves q (copy_data_of (take r.whole.len p)) now h)
      (back_moves Handling Nothing r.whole.in_wait now h (λ e. impossible cc) (λ e. impossible cc))))

  -- ---- what stays

  stays : (q : Queue) (s : State) (x : Run) → r.state ≡ s → x.state ≡ r.state → x.offer.event ≡ r.offer.event
      → state_next s x (length p) q ≡ state_next s r (length p) q → Stays r (length p) q (moved x l)
  unfolding next_step_of
  stays q s x h kept offered same =
      record {
        same_state = kept;
        none_written = refl;
        same_offer = offered;
        none_refused = refl;
        none_handed_on = refl;
        none_taken = refl;
        same_answer = ap (λ (y : State). state_next y x (length p) q) (kept ∙ h) ∙ same
            ∙ ap (λ (y : State). state_next y r (length p) q) (sym h);
      }

  -- ---- Waiting

  idle_timed : (q : Queue) → r.state ≡ Waiting → m.0 < beyond → Due (idle_moment r) q (idle_of now (i q) l)
  unfolding state_next waiting_next
  idle_timed q h k =
      one_clock (idle_moment r) (leb r.settings.idle_wakeup_interval (since_of m r.clock.wait_began))
      (passed_by r.settings.idle_wakeup_interval r.clock.wait_began m k)
      (status_moves q false Turn now) (stays q Waiting now h refl refl refl)

  -- the tests in their order: pending, its interval passed, signalled
  waits_by : (q : Queue) (pending passed signalled : Bool) (s d : ℕ) {x y z : Outcome} → m.0 < beyond
      → passed ≡ leb s m.0 → Moves r x → Moves r y → Due d q z
      → Says q (pick pending (by_clock (min s d)) (pick signalled at_once (by_clock d)))
      (pick (pick pending passed false) x (pick (pick pending false signalled) y z))
  waits_by q true passed signalled s d k h hx hy hz = by_clock_lem (min s d) k (two_clocks s d passed h hx hz)
  waits_by q false passed true s d k h hx hy hz = hy
  waits_by q false passed false s d k h hx hy hz = by_clock_lem d k hz

  waiting_promised : (q : Queue) → r.state ≡ Waiting → m.0 < beyond → Says q (waiting_next r) (waiting_of now (i q) l)
  unfolding waiting_of waiting_next
  waiting_promised q h k =
      waits_by q r.pending (interval_passed now) r.progress.signalled (status_moment r) (idle_moment r) k
      (passed_by r.settings.status_interval r.status.at m k)
      (status_moves q false Turn now)
      (leaves (λ e. impossible cc))
      (idle_timed q h k)

  -- ---- Offering

  -- another event follows, or none
  after_moves : (stops : Bool) (e : Event) (x : Run) → r.state ≡ Offering → is_stopped_at r.offer.event ≡ false
      → Moves r (handing e (pick stops (offers (StoppedAt x.offer.reached) false (lsn 0) x) (back x)) l)
  after_moves true e x h k = passes (λ j. let z : true ≡ is_stopped_at r.offer.event = ap is_stopped_at j in impossible cc)
  after_moves false e x h k = back_moves Offering e x.whole.in_wait x h (λ j. impossible cc) (λ j. impossible cc)

  -- the event is handed on or dropped
  next_by : (stopped : Bool) (e : Event) (x : Run) → r.state ≡ Offering → is_stopped_at r.offer.event ≡ stopped
      → Moves r (pick stopped (done_with e x l) (handing e (after_event x) l))
  next_by true e x h k = writes (omega arith)
  next_by false e x h k = after_moves x.offer.stops e x h k

  -- stalled before, or from now on
  full_timed : (stalled : Bool) → r.state ≡ Offering → m.0 < beyond
      → Due (status_moment r) Full (pick stalled (stalled_of now (i Full) l) (stalled_of (stalls now) (i Full) l))
  unfolding stalled_of state_next offering_next
  full_timed true h k =
      one_clock (status_moment r) (interval_passed now) (passed_by r.settings.status_interval r.status.at m k)
      (status_moves Full false Offering now) (stays Full Offering now h refl refl refl)
  full_timed false h k =
      one_clock (status_moment r) (interval_passed (stalls now)) (passed_by r.settings.status_interval r.status.at m k)
      (status_moves Full false Offering (stalls now)) (stays Full Offering (stalls now) h refl refl refl)

  offering_promised : (q : Queue) → r.state ≡ Offering → m.0 < beyond → Says q (offering_next r q) (offering_of now (i q) l)
  unfolding offering_of offering_next stalled_of
  offering_promised Free h k =
      let hands_on : Run → Run = λ x. with_metrics (with_event x.metrics) x in
      either r.offer.stalled (next_by (is_stopped_at r.offer.event) r.offer.event (hands_on (stall_ended now)) h refl)
      (next_by (is_stopped_at r.offer.event) r.offer.event (hands_on now) h refl)
  offering_promised Closed h k =
      either r.offer.stalled (next_by (is_stopped_at r.offer.event) Nothing (stall_ended now) h refl)
      (next_by (is_stopped_at r.offer.event) Nothing now h refl)
  offering_promised Full h k = by_clock_lem (status_moment r) k (full_timed r.offer.stalled h k)

  -- ---- Reading

  reading_by_lem : (q : Queue) (refused whole : Bool) (tag n : ℕ) → r.state ≡ Reading
      → let x : Result = pick refused (R.refused 7, r.reader, 0, p) (pick whole (R.whole tag n, fresh, 0, p) (R.more, r.reader, 0, p)) in
      Says q (pick refused at_once (pick whole at_once on_input)) (having x.2 x.3 (reading_by x.0 (with_reader x.1 now) l))
  unfolding state_next
  reading_by_lem q true whole tag n h = leaves (λ e. impossible cc)
  reading_by_lem q false true tag n h = leaves (λ e. impossible cc)
  reading_by_lem q false false tag n h = stays q Reading now h refl refl refl

  reading_promised : (q : Queue) → r.state ≡ Reading → limit_of r.settings.max_message_size ≤ length p
      → Says q (reading_next r.reader (length p)) (reading_of now (i q) l)
  unfolding reading_of reading_next quiet_read
  reading_promised q h k =
      let x : MessageReader = r.reader in
      rw (read_quietly r.settings.max_message_size r.reader p k)
      (reading_by_lem q x.refused (is_whole x (length p)) (get_or x.header 0 0) (min x.payload_len (length p)) h)

  -- ---- Opening

  -- a message that is skipped leaves a reader that waits for the next one
  opening_whole : (q : Queue) (both error : Bool) (x : Run) → r.state ≡ Opening
      → opening_next r.reader (length p) ≡ pick both at_once (pick error at_once on_input)
      → Says q (pick both at_once (pick error at_once on_input))
      (having 0 p (pick both (moved (with_state Turn (with_reader fresh now)) l) (pick error (ended_with 19 x l) (moved (with_reader fresh now) l))))
  unfolding state_next opening_next is_whole
  opening_whole q true error x h answer = leaves (λ e. impossible cc)
  opening_whole q false true x h answer = leaves (λ e. impossible cc)
  opening_whole q false false x h answer = stays q Opening (with_reader fresh now) h refl refl (sym answer)

  opening_by_lem : (q : Queue) (refused whole : Bool) (tag n : ℕ) → r.state ≡ Opening
      → let answers : Next = pick refused at_once (pick whole (pick (is_copy_both_response tag) at_once (pick (is_error tag) at_once on_input)) on_input) in
      let x : Result = pick refused (R.refused 7, r.reader, 0, p) (pick whole (R.whole tag n, fresh, 0, p) (R.more, r.reader, 0, p)) in
      opening_next r.reader (length p) ≡ answers
      → Says q answers (having x.2 x.3 (opening_by x.0 (with_reader x.1 now) l))
  unfolding state_next
  opening_by_lem q true whole tag n h answer = leaves (λ e. impossible cc)
  opening_by_lem q false true tag n h answer =
      opening_whole q (is_copy_both_response tag) (is_error tag) (with_whole (whole_of tag n false) (with_reader fresh now)) h answer
  opening_by_lem q false false tag n h answer = stays q Opening now h refl refl refl

  opening_promised : (q : Queue) → r.state ≡ Opening → limit_of r.settings.max_message_size ≤ length p
      → Says q (opening_next r.reader (length p)) (opening_of now (i q) l)
  unfolding opening_of opening_next quiet_read
  opening_promised q h k =
      let x : MessageReader = r.reader in
      rw (read_quietly r.settings.max_message_size r.reader p k)
      (opening_by_lem q x.refused (is_whole x (length p)) (get_or x.header 0 0) (min x.payload_len (length p)) h refl)

  -- ---- a step

  state_promised : (q : Queue) (s : State) → r.state ≡ s → limit_of r.settings.max_message_size ≤ length p → m.0 < beyond
      → Says q (state_next s r (length p) q) (pick (is_ended s) (refused_with 2 r l) (step_in s now (i q) l))
  unfolding state_next step_in
  state_promised q Opening h fits k = opening_promised q h fits
  state_promised q Turn h fits k = turn_moves q h
  state_promised q Drain h fits k = drain_moves q h
  state_promised q Reading h fits k = reading_promised q h fits
  state_promised q Waiting h fits k = waiting_promised q h k
  state_promised q Handling h fits k = handling_moves q h
  state_promised q Offering h fits k = offering_promised q h k
  state_promised q Ended h fits k = refl

pub next_step_promised : NextStepPromised
unfolding step_of next_step_of
next_step_promised r q p out time m a =
    simp (le-ltb _ _ a.payload_fits, le-ltb _ _ a.status_fits, good_moment r m p out a)
    (state_promised r p out time m q r.state refl a.payload_fits (in_range_lem r m p out a))

-- ---- never

not_never : (b : Bool) {x y : Next} → (x ≡ never → ⊥) → (y ≡ never → ⊥) → pick b x y ≡ never → ⊥
not_never true hx hy = hx
not_never false hx hy = hy

at_once_lem : at_once ≡ never → ⊥
at_once_lem h = impossible cc

on_input_lem : on_input ≡ never → ⊥
on_input_lem h = impossible cc

clock_not_never : (due : ℕ) → by_clock due ≡ never → ⊥
unfolding by_clock
clock_not_never due = not_never (eqb due 0) at_once_lem (not_never (ltb due beyond) (λ h. impossible cc) on_input_lem)

state_not_never : (s : State) (r : Run) (n : ℕ) (q : Queue) → state_next s r n q ≡ never → s ≡ Ended
unfolding state_next opening_next reading_next waiting_next offering_next
state_not_never Opening r n q h =
    let tag : ℕ = get_or r.reader.header 0 0 in
    absurd (not_never r.reader.refused at_once_lem
    (not_never (is_whole r.reader n) (not_never (is_copy_both_response tag) at_once_lem (not_never (is_error tag) at_once_lem on_input_lem)) on_input_lem) h)
state_not_never Turn r n q h = absurd (at_once_lem h)
state_not_never Drain r n q h = absurd (at_once_lem h)
state_not_never Reading r n q h = absurd (not_never r.reader.refused at_once_lem (not_never (is_whole r.reader n) at_once_lem on_input_lem) h)
state_not_never Waiting r n q h =
    absurd (not_never r.pending (clock_not_never (min (status_moment r) (idle_moment r)))
    (not_never r.progress.signalled at_once_lem (clock_not_never (idle_moment r))) h)
state_not_never Handling r n q h = absurd (at_once_lem h)
state_not_never Offering r n Free h = absurd (at_once_lem h)
state_not_never Offering r n Closed h = absurd (at_once_lem h)
state_not_never Offering r n Full h = absurd (clock_not_never (status_moment r) h)
state_not_never Ended r n q h = refl

pub never_is_ended : NeverIsEnded
unfolding next_step_of
never_is_ended r n q h = state_not_never r.state r n q h

pub ended_is_never : EndedIsNever
unfolding next_step_of state_next step_of
ended_is_never r n q h = (ap (λ (y : State). state_next y r n q) h, λ i l. rw h)
