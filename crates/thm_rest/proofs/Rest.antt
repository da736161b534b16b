-- A run comes to rest, state by state: after a step of Turn the status interval has not passed at this moment, and a wait that begins now is at
-- rest then.
use Prim.Native.Nat.{ℕ, zero, suc, ◌+◌, ◌-◌, ◌<◌, min}
use native.Mathlib.Omega.{arith}
use borrow.Author.Tests.{le-ltb, lt-leb, leb-false, eqb-true}
use mathlib.Core.Bool.{Bool, true, false}
use mathlib.Core.Path.{◌≡◌, refl, sym, ap, ◌∙◌, subst}
use mathlib.Core.List.{List}
use mathlib.Core.Logic.{inl, inr}
use lib.ListN.{length, get_or, take}
use lib.IntN.{ℤ}
use lib.Dec.{ltb, leb, eqb}
use Rattle.wire.specs.Bytes.{pick, at}
use Rattle.wire.proofs.Laws.{by_test, impossible}
use Rattle.framing.specs.declared.MessageReader.{MessageReader}
use Rattle.framing.specs.Read.{Result, fresh}
use Rattle.framing.specs.Read as R
use Rattle.frames.specs.Tag.{is_error, is_copy_both_response, is_copy_data}
use Rattle.lsn.specs.declared.Lsn.{Lsn}
use Rattle.metrics.specs.Metrics.{more, with_event, with_reply, with_end}
use Rattle.moment.specs.declared.Moment.{Moment}
use Rattle.moment.specs.Moment.{since_of}
use Rattle.pgoutput.specs.Boundary.{boundary_of}
use Rattle.pgoutput.specs.Boundary as B
use Rattle.progress.specs.Progress.{cell_signal, looked_of}
use Rattle.replication.specs.CopyData.{copy_data_of}
use Rattle.replication.specs.CopyData as C
use Rattle.worker.specs.declared.Event.{Event}
use Rattle.worker.specs.declared.Event.TheVariants.{Nothing, KeepAlive, Begin, Commit, Message, XLogData, StoppedAt}
use Rattle.worker.specs.declared.Input.{Input}
use Rattle.worker.specs.declared.Queue.{Queue}
use Rattle.worker.specs.declared.Queue.TheVariants.{Free, Full, Closed}
use Rattle.worker.specs.declared.Run.{Run}
use Rattle.worker.specs.declared.State.{State}
use Rattle.worker.specs.declared.State.TheVariants.{Opening, Turn, Drain, Reading, Waiting, Handling, Offering, Ended}
use Rattle.worker.specs.Tests.{both, unless}
use Rattle.worker.specs.Run.{lsn, cell_in, with_state, whole_of, with_drained, with_metrics, with_reader, with_whole, accepted}
use Rattle.worker.specs.Streaming.{is_copy_done}
use Rattle.worker.specs.Step.{Lent, Outcome, after_event, back, boundary_by, copy_data_by, done_with, drain_of, drops, ended_with, handing, hands_on, handling_of, having, interval_passed, is_ended, is_stopped_at, moved, next_event, offering_of, offers, opening_by, opening_of, reaches, reading_by, reading_of, stall_ended, stalled_of, stalls, step_in, feedback_of, step_of, turn_of, waiting_of, waits}
use Rattle.schedule.specs.NextStep.{at_once, by_clock, idle_moment, beyond, is_whole, next_step_of, offering_next, opening_next, reading_next, state_next, status_moment, waiting_next}
use Rattle.schedule.specs.Promise.{quiet, no_byte, quiet_step, Accepts}
use Rattle.schedule.proofs.Clock.{good_moment, in_range_lem, passed_by}
use Rattle.schedule.proofs.Read.{quiet_read, read_quietly}
use Rattle.thm_rest.specs.Rest.{NotNow, AtRest, Rests, ComesToRest}

module _ (m : Moment) (time : ℤ) (q : Queue) (p out : List ℕ) where
  abbrev l : Lent
  l = no_byte p out

  abbrev i : Input
  i = quiet m time q

  abbrev Rest : ℕ → Run → Type 0
  Rest n r = Rests m time q p out n r

  abbrev Calm : Run → Type 0
  Calm r = AtRest m time q p out r

  -- ---- counting steps

  later : (n : ℕ) (r : Run) → Rest n r → Rest (suc n) r
  later zero r h = inl h
  later (suc n) r (inl h) = inl h
  later (suc n) r (inr h) = inr (later n (quiet_step r m time q p out).run h)

  -- the run that a step in state x leaves
  abbrev after : State → Run → Run
  after x r = (step_in x (accepted m r) i l).run

  -- ---- what holds of each run on the way: both intervals are above 0, and its steps are accepted
  record Fit (r : Run) : Type 0 where
    status : 0 < r.settings.status_interval
    idle : 0 < r.settings.idle_wakeup_interval
    accepts : Accepts r m p out

  module _ (r : Run) (f : Fit r) where
    -- a run of the same settings whose last accepted moment is this one
    again : (s : Run) → s.settings ≡ r.settings → s.clock.last ≡ m → Fit s
    again s hs hc =
        record {
          status = rw hs f.status;
          idle = rw hs f.idle;
          accepts =
              record {
                payload_fits = rw hs f.accepts.payload_fits;
                status_fits = f.accepts.status_fits;
                not_early = f.accepts.not_early;
                not_late = f.accepts.not_late;
                not_before = rw hc (omega arith);
              };
        }

    -- a step in a state
    stepped : (n : ℕ) (x : State) → r.state ≡ x → is_ended x ≡ false → Rest n (after x r) → Rest (suc n) r
    unfolding step_of
    stepped n x h e k =
        let a = f.accepts in
        let g : is_ended r.state ≡ false = ap is_ended h ∙ e in
        let o = ap (λ (y : State). step_in y (accepted m r) i l) h in
        inr (simp (g, le-ltb _ _ a.payload_fits, le-ltb _ _ a.status_fits, good_moment r m p out a) (subst (λ (y : Outcome). Rest n y.run) (sym o) k))

    within : m.0 < beyond
    within = in_range_lem r m p out f.accepts

    -- the status interval has not passed, or the idle interval
    status_ahead : leb r.settings.status_interval (since_of m r.status.at) ≡ false → m.0 < status_moment r
    status_ahead h = leb-false (status_moment r) m.0 (sym (passed_by r.settings.status_interval r.status.at m within) ∙ h)

    idle_ahead : leb r.settings.idle_wakeup_interval (since_of m r.clock.wait_began) ≡ false → m.0 < idle_moment r
    idle_ahead h = leb-false (idle_moment r) m.0 (sym (passed_by r.settings.idle_wakeup_interval r.clock.wait_began m within) ∙ h)

    clock_calm : (due : ℕ) → m.0 < due → NotNow (by_clock due) m.0
    unfolding by_clock
    clock_calm due h =
        by_test (eqb due 0) (λ t. let e : due ≡ 0 = eqb-true due 0 t in absurd (omega arith))
        (λ t. by_test (ltb due beyond) (λ k. rw (t, k) h) (λ k. rw (t, k) tt))

    -- ---- Ended

    ended_calm : r.state ≡ Ended → Calm r
    unfolding next_step_of state_next
    ended_calm h = rw h tt

    -- ---- Waiting, with nothing to do now

    waiting_calm : r.state ≡ Waiting → both r.pending (interval_passed (accepted m r)) ≡ false
        → unless r.pending (cell_signal (cell_in r)) ≡ false
        → leb r.settings.idle_wakeup_interval (since_of m r.clock.wait_began) ≡ false → Calm r
    unfolding next_step_of state_next waiting_next
    waiting_calm h a b c = rw h (by r.pending (cell_signal (cell_in r)) a b)
      where
        by : (x y : Bool) → both x (interval_passed (accepted m r)) ≡ false → unless x y ≡ false
            → NotNow (pick x (by_clock (min (status_moment r) (idle_moment r))) (pick y at_once (by_clock (idle_moment r)))) m.0
        by true y a b =
            let s : m.0 < status_moment r = status_ahead a in
            let d : m.0 < idle_moment r = idle_ahead c in
            clock_calm (min (status_moment r) (idle_moment r)) (omega arith)
        by false true a b = impossible cc
        by false false a b = clock_calm (idle_moment r) (idle_ahead c)

  -- a run with another state, offer, reader or whole message fits as well
  same : (x y : Run) → Fit x → y.settings ≡ x.settings → y.clock ≡ x.clock → Fit y
  same x y f hs hc =
      record {
        status = rw hs f.status;
        idle = rw hs f.idle;
        accepts =
            record {
              payload_fits = rw hs f.accepts.payload_fits;
              status_fits = f.accepts.status_fits;
              not_early = f.accepts.not_early;
              not_late = f.accepts.not_late;
              not_before = rw hc f.accepts.not_before;
            };
      }

  -- no time has passed since this moment, and the interval is above 0
  not_passed : (interval : ℕ) → 0 < interval → leb interval (since_of m m) ≡ false
  not_passed interval h = lt-leb interval (m.0 - m.0) (omega arith)

  -- ---- Drain, with none drained and the status interval not passed: the wait that begins is at rest

  drain_last : (r : Run) → Fit r → r.state ≡ Drain → r.drained ≡ 0 → leb r.settings.status_interval (since_of m r.status.at) ≡ false
      → Rest 1 r
  unfolding step_in drain_of looked_of next_step_of state_next waiting_next
  drain_last r f h d s =
      let w : Run = waits (accepted m r) in
      stepped r f 0 Drain h refl
      (rw d (waiting_calm w (again r f w refl refl) refl (by w.pending s) (none w.pending) (not_passed _ f.idle)))
    where
      by : (x : Bool) {y : Bool} → y ≡ false → both x y ≡ false
      by true k = k
      by false k = refl

      none : (x : Bool) → unless x false ≡ false
      none true = refl
      none false = refl

  -- ---- Turn: a status now, or its interval has not passed

  -- the run after a status, and after none
  abbrev sent : Run → Run
  sent r = (feedback_of false Drain (with_drained 0 (accepted m r)) i l).run

  abbrev unsent : Run → Run
  unsent r = with_state Drain (with_drained 0 (accepted m r))

  turn_rests : (r : Run) → Fit r → r.state ≡ Turn → Rest 2 r
  unfolding step_in turn_of feedback_of
  turn_rests r f h = stepped r f 1 Turn h refl (by r.status.sent (interval_passed (accepted m r)) refl refl)
    where
      by : (a b : Bool) → r.status.sent ≡ a → interval_passed (accepted m r) ≡ b
          → Rest 1 (pick {A = Outcome} (pick a b true) (feedback_of false Drain (with_drained 0 (accepted m r)) i l)
          (moved (with_state Drain (with_drained 0 (accepted m r))) l)).run
      by true true ea eb = drain_last (sent r) (again r f (sent r) refl refl) refl refl (not_passed _ f.status)
      by true false ea eb = drain_last (unsent r) (again r f (unsent r) refl refl) refl refl eb
      by false b ea eb = drain_last (sent r) (again r f (sent r) refl refl) refl refl (not_passed _ f.status)

  -- ---- Waiting

  abbrev woken : Run → Run
  woken r = (feedback_of false Turn (accepted m r) i l).run

  waiting_rests : (r : Run) → Fit r → r.state ≡ Waiting → Rest 3 r
  unfolding step_in waiting_of feedback_of
  waiting_rests r f h =
      stepped r f 2 Waiting h refl
      (by (both r.pending (interval_passed (accepted m r))) (unless r.pending (cell_signal (cell_in r)))
      (leb r.settings.idle_wakeup_interval (since_of m r.clock.wait_began)) refl refl refl)
    where
      by : (a b c : Bool) → both r.pending (interval_passed (accepted m r)) ≡ a → unless r.pending (cell_signal (cell_in r)) ≡ b
          → leb r.settings.idle_wakeup_interval (since_of m r.clock.wait_began) ≡ c
          → Rest 2
          (pick {A = Outcome} a (feedback_of false Turn (accepted m r) i l)
          (pick {A = Outcome} b (moved (with_state Turn (accepted m r)) l)
          (pick {A = Outcome} c (feedback_of false Turn (accepted m r) i l) (moved (accepted m r) l)))).run
      by true b c ea eb ec = turn_rests (woken r) (again r f (woken r) refl refl) refl
      by false true c ea eb ec = turn_rests (with_state Turn (accepted m r)) (again r f (with_state Turn (accepted m r)) refl refl) refl
      by false false true ea eb ec = turn_rests (woken r) (again r f (woken r) refl refl) refl
      by false false false ea eb ec = inl (waiting_calm (accepted m r) (again r f (accepted m r) refl refl) h ea eb ec)

  -- ---- Drain

  drain_rests : (r : Run) → Fit r → r.state ≡ Drain → Rest 4 r
  unfolding step_in drain_of looked_of
  drain_rests r f h = stepped r f 3 Drain h refl (by (ltb r.drained 256) (eqb r.drained 0))
    where
      waited : Rest 3 (waits (accepted m r))
      waited = waiting_rests (waits (accepted m r)) (again r f (waits (accepted m r)) refl refl) refl

      turned : Rest 3 (with_state Turn (accepted m r))
      turned =
          later 2 (with_state Turn (accepted m r))
          (turn_rests (with_state Turn (accepted m r)) (again r f (with_state Turn (accepted m r)) refl refl) refl)

      by : (a b : Bool)
          → Rest 3
          (pick {A = Outcome} (both a false) (moved (with_state Reading (accepted m r)) l)
          (pick {A = Outcome} b (moved (waits (accepted m r)) l) (moved (with_state Turn (accepted m r)) l))).run
      by true true = waited
      by true false = turned
      by false true = waited
      by false false = turned

  -- ---- back to Drain, or to Turn after a wait

  back_rests : (x : Run) → Fit x → (w : Bool) → Rest 4 (with_state (pick w Turn Drain) x)
  back_rests x f true =
      later 3 (with_state Turn x) (later 2 (with_state Turn x) (turn_rests (with_state Turn x) (same x (with_state Turn x) f refl refl) refl))
  back_rests x f false = drain_rests (with_state Drain x) (same x (with_state Drain x) f refl refl) refl

  -- ---- Offering

  module _ (r : Run) (f : Fit r) (h : r.state ≡ Offering) where
    abbrev now : Run
    now = accepted m r

    -- what a step makes of it, by the queue
    free_is : q ≡ Free → offering_of now i l ≡ pick r.offer.stalled (hands_on (stall_ended now) l) (hands_on now l)
    unfolding offering_of stalled_of
    free_is hq = rw hq refl

    closed_is : q ≡ Closed → offering_of now i l ≡ pick r.offer.stalled (drops (stall_ended now) l) (drops now l)
    unfolding offering_of stalled_of
    closed_is hq = rw hq refl

    abbrev full_by : Run → Outcome
    full_by x = pick (interval_passed x) (feedback_of false Offering x i l) (moved x l)

    full_is : q ≡ Full → offering_of now i l ≡ pick r.offer.stalled (full_by now) (full_by (stalls now))
    unfolding offering_of stalled_of
    full_is hq = rw hq refl

  -- the queue is full, and the status interval has not passed
  full_calm : (x : Run) → Fit x → x.state ≡ Offering → q ≡ Full → leb x.settings.status_interval (since_of m x.status.at) ≡ false → Calm x
  unfolding next_step_of state_next offering_next
  full_calm x f h hq k = rw (h, hq) (clock_calm x f (status_moment x) (status_ahead x f k))

  -- a status was sent now
  sent_calm : (r x : Run) → Fit r → x.settings ≡ r.settings → x.clock.last ≡ m → q ≡ Full → Calm (feedback_of false Offering x i l).run
  unfolding feedback_of
  sent_calm r x f hs hc hq =
      let y : Run = (feedback_of false Offering x i l).run in
      let g : Fit y = again r f y hs hc in
      full_calm y g refl hq (rw hc (not_passed _ g.status))

  full_rests : (r : Run) → Fit r → r.state ≡ Offering → q ≡ Full → Rest 1 r
  unfolding step_in
  full_rests r f h hq = by (interval_passed (accepted m r)) refl
    where
      sent_by : (b a : Bool) → a ≡ true
          → Calm (pick {A = Outcome} b (pick {A = Outcome} a (feedback_of false Offering (accepted m r) i l) (moved (accepted m r) l))
          (pick {A = Outcome} a (feedback_of false Offering (stalls (accepted m r)) i l) (moved (stalls (accepted m r)) l))).run
      sent_by true true e = sent_calm r (accepted m r) f refl refl hq
      sent_by false true e = sent_calm r (stalls (accepted m r)) f refl refl hq
      sent_by b false e = impossible cc

      by : (a : Bool) → interval_passed (accepted m r) ≡ a → Rest 1 r
      by false ea = inl (full_calm r f h hq ea)
      by true ea =
          stepped r f 0 Offering h refl
          (subst (λ (o : Outcome). Calm o.run) (sym (full_is r f h hq)) (sent_by r.offer.stalled (interval_passed (accepted m r)) ea))

  -- StoppedAt, handed on or dropped, ends the run
  ended_next : (ev : Event) (x : Run) → is_stopped_at x.offer.event ≡ true → Calm (next_event ev x l).run
  unfolding next_step_of state_next
  ended_next ev x k = by (is_stopped_at x.offer.event) k
    where
      by : (c : Bool) → c ≡ true → Calm (pick {A = Outcome} c (done_with ev x l) (handing ev (after_event x) l)).run
      by true e = tt
      by false e = impossible cc

  -- an event was counted
  abbrev counted : Run → Run
  counted x = with_metrics (with_event x.metrics) x

  stopped_rests : (r : Run) → Fit r → r.state ≡ Offering → is_stopped_at r.offer.event ≡ true → Rest 1 r
  unfolding step_in
  stopped_rests r f h k = by q refl
    where
      freely : (b : Bool) → Calm (pick {A = Outcome} b (hands_on (stall_ended (accepted m r)) l) (hands_on (accepted m r) l)).run
      freely true = ended_next r.offer.event (counted (stall_ended (accepted m r))) k
      freely false = ended_next r.offer.event (counted (accepted m r)) k

      dropped : (b : Bool) → Calm (pick {A = Outcome} b (drops (stall_ended (accepted m r)) l) (drops (accepted m r) l)).run
      dropped true = ended_next Nothing (stall_ended (accepted m r)) k
      dropped false = ended_next Nothing (accepted m r) k

      by : (u : Queue) → q ≡ u → Rest 1 r
      by Free hq = stepped r f 0 Offering h refl (subst (λ (o : Outcome). Calm o.run) (sym (free_is r f h hq)) (freely r.offer.stalled))
      by Closed hq = stepped r f 0 Offering h refl (subst (λ (o : Outcome). Calm o.run) (sym (closed_is r f h hq)) (dropped r.offer.stalled))
      by Full hq = full_rests r f h hq

  -- an event was handed on or dropped: the run ends, offers StoppedAt, or goes back
  passed_rests : (ev : Event) (x : Run) → Fit x → Rest 4 (next_event ev x l).run
  unfolding next_step_of state_next
  passed_rests ev x f = by (is_stopped_at x.offer.event) x.offer.stops
    where
      by : (a b : Bool)
          → Rest 4
          (pick {A = Outcome} a (done_with ev x l) (handing ev (pick {A = Run} b (offers (StoppedAt x.offer.reached) false (lsn 0) x) (back x)) l)).run
      by true b = inl tt
      by false true =
          let y : Run = offers (StoppedAt x.offer.reached) false (lsn 0) x in
          later 3 y (later 2 y (later 1 y (stopped_rests y (same x y f refl refl) refl refl)))
      by false false = back_rests x f x.whole.in_wait

  offering_rests : (r : Run) → Fit r → r.state ≡ Offering → Rest 5 r
  unfolding step_in
  offering_rests r f h = by q refl
    where
      freely : (b : Bool) → Rest 4 (pick {A = Outcome} b (hands_on (stall_ended (accepted m r)) l) (hands_on (accepted m r) l)).run
      freely true =
          let y : Run = counted (stall_ended (accepted m r)) in passed_rests r.offer.event y (again r f y refl refl)
      freely false = let y : Run = counted (accepted m r) in passed_rests r.offer.event y (again r f y refl refl)

      dropped : (b : Bool) → Rest 4 (pick {A = Outcome} b (drops (stall_ended (accepted m r)) l) (drops (accepted m r) l)).run
      dropped true = passed_rests Nothing (stall_ended (accepted m r)) (again r f (stall_ended (accepted m r)) refl refl)
      dropped false = passed_rests Nothing (accepted m r) (again r f (accepted m r) refl refl)

      by : (u : Queue) → q ≡ u → Rest 5 r
      by Free hq = stepped r f 4 Offering h refl (subst (λ (o : Outcome). Rest 4 o.run) (sym (free_is r f h hq)) (freely r.offer.stalled))
      by Closed hq = stepped r f 4 Offering h refl (subst (λ (o : Outcome). Rest 4 o.run) (sym (closed_is r f h hq)) (dropped r.offer.stalled))
      by Full hq = later 4 r (later 3 r (later 2 r (later 1 r (full_rests r f h hq))))

  -- ---- Handling

  offered_rests : (ev : Event) (position : Lsn) (x : Run) → Fit x → Rest 5 (offers ev (reaches x position) position x)
  offered_rests ev position x f =
      let y : Run = offers ev (reaches x position) position x in
      offering_rests y (same x y f refl refl) refl

  boundary_rests : (a : B.Said) (start end : ℕ) (t : ℤ) (place len : ℕ) (x : Run) → Fit x → Rest 5 (boundary_by a start end t place len x l).run
  unfolding next_step_of state_next
  boundary_rests (B.begin final t xid) start end wt place len x f = offered_rests (Begin (lsn final) t xid) (lsn final) x f
  boundary_rests (B.commit c ce t) start end wt place len x f = offered_rests (Commit (lsn c) (lsn ce) t) (lsn ce) x f
  boundary_rests (B.message flag c pf pl cf cl) start end wt place len x f =
      offered_rests (Message flag (lsn c) (place + pf) pl (place + cf) cl) (lsn end) x f
  boundary_rests B.no_boundary start end wt place len x f = offered_rests (XLogData (lsn start) (lsn end) wt place len) (lsn end) x f
  boundary_rests (B.refused n) start end wt place len x f = inl tt

  copy_data_rests : (r : Run) → Fit r → (a : C.Said) → Rest 5 (copy_data_by a (accepted m r) i l).run
  unfolding feedback_of next_step_of state_next
  copy_data_rests r f (C.k end t true) =
      let x : Run = with_metrics (with_end r.metrics (lsn end)) (accepted m r) in
      let y : Run = offers (KeepAlive (lsn end) t true) false (lsn 0) x in
      let z : Run = (feedback_of true Offering (with_metrics (with_reply y.metrics) y) i l).run in
      offering_rests z (again r f z refl refl) refl
  copy_data_rests r f (C.k end t false) =
      let x : Run = with_metrics (with_end r.metrics (lsn end)) (accepted m r) in
      let y : Run = offers (KeepAlive (lsn end) t false) false (lsn 0) x in
      offering_rests y (again r f y refl refl) refl
  copy_data_rests r f (C.w start end t place len) =
      let x : Run = with_metrics (with_end r.metrics (lsn end)) (accepted m r) in
      boundary_rests (boundary_of (at p place len)) start end t place len x (again r f x refl refl)
  copy_data_rests r f (C.refused n) = inl tt

  handling_rests : (r : Run) → Fit r → r.state ≡ Handling → Rest 6 r
  unfolding step_in handling_of next_step_of state_next
  handling_rests r f h = stepped r f 5 Handling h refl (by (is_error r.whole.tag) (is_copy_done r.whole.tag) (is_copy_data r.whole.tag))
    where
      by : (a d b : Bool)
          → Rest 5 (pick {A = Outcome} a (ended_with 19 (accepted m r) l)
          (pick {A = Outcome} d (done_with Nothing (accepted m r) l)
          (pick {A = Outcome} b (copy_data_by (copy_data_of (take r.whole.len p)) (accepted m r) i l) (moved (back (accepted m r)) l)))).run
      by true d b = inl tt
      by false true b = inl tt
      by false false true = copy_data_rests r f (copy_data_of (take r.whole.len p))
      by false false false = later 4 (back (accepted m r)) (back_rests (accepted m r) (again r f (accepted m r) refl refl) r.whole.in_wait)

  -- ---- Reading and Opening: a reader that no call left may hold a whole message, or remember 7

  -- what a read brings that finds no byte
  abbrev found : MessageReader → Bool → Bool → Result
  found x a b =
      pick a (R.refused 7, x, 0, p) (pick b (R.whole (get_or x.header 0 0) (min x.payload_len (length p)), fresh, 0, p) (R.more, x, 0, p))

  reading_rests : (r : Run) → Fit r → r.state ≡ Reading → Rest 7 r
  unfolding step_in reading_of next_step_of state_next reading_next quiet_read
  reading_rests r f h =
      stepped r f 6 Reading h refl
      (subst (λ (x : Result). Rest 6 (having x.2 x.3 (reading_by x.0 (with_reader x.1 (accepted m r)) l)).run)
      (sym (read_quietly r.settings.max_message_size r.reader p f.accepts.payload_fits))
      (by r.reader.refused (is_whole r.reader (length p)) refl refl))
    where
      by : (a b : Bool) → r.reader.refused ≡ a → is_whole r.reader (length p) ≡ b
          → let x : Result = found r.reader a b in Rest 6 (having x.2 x.3 (reading_by x.0 (with_reader x.1 (accepted m r)) l)).run
      by true b ea eb = inl tt
      by false true ea eb =
          let n : ℕ = min r.reader.payload_len (length p) in
          let y : Run =
          with_state Handling (with_whole (whole_of (get_or r.reader.header 0 0) n false) (with_drained (more r.drained 1) (with_reader fresh (accepted m r)))) in
          handling_rests y (again r f y refl refl) refl
      by false false ea eb = inl (rw (h, eb, ea) tt)

  opening_rests : (r : Run) → Fit r → r.state ≡ Opening → Rest 3 r
  unfolding step_in opening_of next_step_of state_next opening_next quiet_read is_whole
  opening_rests r f h =
      stepped r f 2 Opening h refl
      (subst (λ (x : Result). Rest 2 (having x.2 x.3 (opening_by x.0 (with_reader x.1 (accepted m r)) l)).run)
      (sym (read_quietly r.settings.max_message_size r.reader p f.accepts.payload_fits))
      (by r.reader.refused (is_whole r.reader (length p)) (is_copy_both_response (get_or r.reader.header 0 0))
      (is_error (get_or r.reader.header 0 0)) refl refl))
    where
      tested : (c d : Bool) (w : Run)
          → Rest 2
          (pick {A = Outcome} c (moved (with_state Turn (with_reader fresh (accepted m r))) l)
          (pick {A = Outcome} d (ended_with 19 w l) (moved (with_reader fresh (accepted m r)) l))).run
      tested true d w =
          let x : Run = with_state Turn (with_reader fresh (accepted m r)) in turn_rests x (again r f x refl refl) refl
      tested false true w = inl tt
      tested false false w = inl (rw h tt)

      by : (a b c d : Bool) → r.reader.refused ≡ a → is_whole r.reader (length p) ≡ b
          → let x : Result = found r.reader a b in Rest 2 (having x.2 x.3 (opening_by x.0 (with_reader x.1 (accepted m r)) l)).run
      by true b c d ea eb = inl tt
      by false true c d ea eb =
          tested (is_copy_both_response (get_or r.reader.header 0 0)) (is_error (get_or r.reader.header 0 0))
          (with_whole (whole_of (get_or r.reader.header 0 0) (min r.reader.payload_len (length p)) false) (with_reader fresh (accepted m r)))
      by false false c d ea eb = inl (rw (h, eb, ea) tt)

  -- ---- every state

  state_rests : (r : Run) → Fit r → (x : State) → r.state ≡ x → Rest 7 r
  unfolding next_step_of state_next
  state_rests r f Opening h = later 6 r (later 5 r (later 4 r (later 3 r (opening_rests r f h))))
  state_rests r f Turn h = later 6 r (later 5 r (later 4 r (later 3 r (later 2 r (turn_rests r f h)))))
  state_rests r f Drain h = later 6 r (later 5 r (later 4 r (drain_rests r f h)))
  state_rests r f Reading h = reading_rests r f h
  state_rests r f Waiting h = later 6 r (later 5 r (later 4 r (later 3 r (waiting_rests r f h))))
  state_rests r f Handling h = later 6 r (handling_rests r f h)
  state_rests r f Offering h = later 6 r (later 5 r (offering_rests r f h))
  state_rests r f Ended h = inl (rw h tt)

pub comes_to_rest : ComesToRest
comes_to_rest r m time q p out a b c = state_rests m time q p out r (record { status = a; idle = b; accepts = c }) r.state refl
