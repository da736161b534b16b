-- A step takes no more than it is lent, since of its rows only a read takes anything; and so do several.
use Rattle.std.proofs.Common.{◌≡◌, ℕ, ◌-◌, ◌≤◌, Bool, true, false, eqb, ltb, leb, length, take, drop, ℤ, refl, arith, length-drop}
use Rattle.wire.specs.Bytes.{pick, at}
use Rattle.framing.specs.Read.{limit_of}
use Rattle.framing.proofs.Laws.{pick_both, reads_within}
use Rattle.frames.specs.Tag.{is_error, is_copy_data}
use Rattle.metrics.specs.Metrics.{with_event, with_end}
use Rattle.moment.specs.Moment.{since_of}
use Rattle.pgoutput.specs.Boundary.{boundary_of}
use Rattle.pgoutput.specs.Boundary as B
use Rattle.replication.specs.CopyData.{copy_data_of}
use Rattle.replication.specs.CopyData as C
use Rattle.progress.specs.Progress.{cell_signal}
use Rattle.worker.specs.declared.State.{State}
use Rattle.worker.specs.declared.State.TheVariants.{Opening, Turn, Drain, Reading, Waiting, Handling, Offering, Ended}
use Rattle.worker.specs.declared.Queue.{Queue}
use Rattle.worker.specs.declared.Queue.TheVariants.{Free, Full, Closed}
use Rattle.worker.specs.declared.Input.{Input}
use Rattle.worker.specs.declared.Event.{Event}
use Rattle.worker.specs.declared.Event.TheVariants.{Nothing}
use Rattle.worker.specs.declared.Run.{Run}
use Rattle.worker.specs.Run.{lsn, cell_in, with_metrics, accepted}
use Rattle.worker.specs.Tests.{both, unless}
use Rattle.worker.specs.Step.{Lent, Outcome, bad_moment, boundary_by, copy_data_by, drain_of, feedback_of, first_offer_by, handling_of, idle_of, interval_passed, is_ended}
use Rattle.worker.specs.Step.{is_readable, is_stopped_at, next_event, offering_of, opening_of, read_by, reading_of, stalled_by, stalled_of, stall_ended, stalls}
use Rattle.worker.specs.Step.{status_due, step_in, step_of, turn_of, waiting_of}
use Rattle.worker.specs.Streaming.{is_copy_done}
use Rattle.advance.specs.Advance.{tells, lent_after, twice}

-- ---- the rows of the table

module _ (i : Input) (l : Lent) where
  record Within (o : Outcome) : Type 0 where
    bound : o.taken ≤ length l.unread

  either : (c : Bool) {x y : Outcome} → Within x → Within y → Within (pick c x y)
  either true hx hy = hx
  either false hx hy = hy

  -- no byte is taken
  none : {o : Outcome} → o.taken ≡ 0 → Within o
  none e = record { bound = omega (arith, e) }

  read_taken : {o : Outcome} (r : Run) → o.taken ≡ (read_by r i l).2 → Within o
  read_taken r e =
      let h = reads_within r.settings.max_message_size r.reader l.unread i.ended l.payload in
      record { bound = rw e h }

  status_taken : (reply : Bool) (to : State) (r : Run) → Within (feedback_of reply to r i l)
  unfolding feedback_of
  status_taken reply to r = none refl

  idle_taken : (r : Run) → Within (idle_of r i l)
  idle_taken r =
      either (leb r.settings.idle_wakeup_interval (since_of r.clock.last r.clock.wait_began)) (status_taken _ _ _) (none refl)

  boundary_taken : (b : B.Said) (start end : ℕ) (time : ℤ) (from len : ℕ) (r : Run) → Within (boundary_by b start end time from len r l)
  boundary_taken (B.begin final t xid) start end time from len r = none refl
  boundary_taken (B.commit position e t) start end time from len r = none refl
  boundary_taken (B.message flag position pf pl cf cl) start end time from len r = none refl
  boundary_taken B.no_boundary start end time from len r = none refl
  boundary_taken (B.refused n) start end time from len r = none refl

  copy_data_taken : (a : C.Said) (r : Run) → Within (copy_data_by a r i l)
  copy_data_taken (C.k end time reply) r = either reply (status_taken _ _ _) (none refl)
  copy_data_taken (C.w start end time from len) r =
      boundary_taken (boundary_of (at l.payload from len)) start end time from len (with_metrics (with_end r.metrics (lsn end)) r)
  copy_data_taken (C.refused n) r = none refl

  next_taken : (e : Event) (r : Run) → Within (next_event e r l)
  next_taken e r = either (is_stopped_at r.offer.event) (none refl) (none refl)

  stalled_by_lem : (q : Queue) (r : Run) → Within (stalled_by q r i l)
  stalled_by_lem Free r = next_taken r.offer.event (with_metrics (with_event (stall_ended r).metrics) r)
  stalled_by_lem Closed r = next_taken Nothing (stall_ended r)
  stalled_by_lem Full r = either (interval_passed r) (status_taken _ _ _) (none refl)

  stalled_taken : (r : Run) → Within (stalled_of r i l)
  unfolding stalled_of
  stalled_taken r = either i.stop (none refl) (stalled_by_lem i.queue r)

  first_taken : (q : Queue) (r : Run) → Within (first_offer_by q r i l)
  first_taken Free r = next_taken r.offer.event (with_metrics (with_event r.metrics) r)
  first_taken Closed r = next_taken Nothing r
  first_taken Full r = stalled_taken (stalls r)

  row_taken : (s : State) (r : Run) → Within (step_in s r i l)
  unfolding step_in opening_of turn_of drain_of reading_of waiting_of handling_of offering_of
  row_taken Opening r = read_taken r refl
  row_taken Turn r = either (status_due r) (status_taken _ _ _) (none refl)
  row_taken Drain r =
      either (both (ltb r.drained 256) (leb 5 (length l.unread))) (none refl)
      (either (eqb r.drained 0) (none refl) (either i.stop (none refl) (none refl)))
  row_taken Reading r = read_taken r refl
  row_taken Waiting r =
      either i.stop (none refl)
      (either (both r.pending (interval_passed r)) (status_taken _ _ _)
      (either (unless r.pending (cell_signal (cell_in r))) (none refl)
      (either (is_readable i l) (read_taken r refl) (idle_taken r))))
  row_taken Handling r =
      either (is_error r.whole.tag) (none refl)
      (either (is_copy_done r.whole.tag) (none refl)
      (either (is_copy_data r.whole.tag) (copy_data_taken (copy_data_of (take r.whole.len l.payload)) r) (none refl)))
  row_taken Offering r = either r.offer.stalled (stalled_taken r) (first_taken i.queue r)
  row_taken Ended r = none refl

  taken_by : (r : Run) → Within (step_of r i l)
  unfolding step_of
  taken_by r =
      either (is_ended r.state) (none refl)
      (either (ltb (length l.payload) (limit_of r.settings.max_message_size)) (none refl)
      (either (ltb (length l.out) 39) (none refl)
      (either (bad_moment r i.moment) (none refl) (row_taken r.state (accepted i.moment r)))))

pub step_taken : (r : Run) (i : Input) (l : Lent) → (step_of r i l).taken ≤ length l.unread
step_taken r i l = (taken_by i l r).bound

-- ---- several steps

pub twice_taken : (f : Run → Input → Lent → Outcome) → ((r : Run) (i : Input) (l : Lent) → (f r i l).taken ≤ length l.unread)
    → (r : Run) (i : Input) (l : Lent) → (twice f r i l).taken ≤ length l.unread
unfolding twice
twice_taken f h r i l =
    let o : Outcome = f r i l in
    let a : o.taken ≤ length l.unread = h r i l in
    let b = h o.run i (lent_after l o) in
    let c : length (drop o.taken l.unread) ≡ length l.unread - o.taken = length-drop o.taken l.unread in
    pick_both (λ (x : Outcome). x.taken ≤ length l.unread) (tells o) _ _ a (omega (arith, b))
