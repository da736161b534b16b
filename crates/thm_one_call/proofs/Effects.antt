-- One walk of the step's definition, row by row: claims takes from it what a status confirms and what can be asked of a run, thm_page_shown the server's
-- end.
use Prim.Native.Nat.{ℕ, ◌≤◌}
use native.Mathlib.Omega.{arith}
use mathlib.Core.Bool.{Bool, true, false}
use mathlib.Core.Path.{◌≡◌, refl, ap, ◌∙◌}
use mathlib.Core.List.{List}
use mathlib.Core.Logic.{◌⊎◌, inl, inr}
use lib.ListN.{length, take}
use lib.IntN.{ℤ}
use lib.Dec.{ltb, leb, eqb}
use Rattle.wire.specs.Bytes.{pick, at}
use Rattle.framing.specs.Read.{Result, limit_of}
use Rattle.framing.specs.Read as R
use Rattle.framing.proofs.Laws.{pick_both, reads_within}
use Rattle.frames.specs.Tag.{is_error, is_copy_both_response, is_copy_data}
use Rattle.lsn.specs.declared.Lsn.{Lsn}
use Rattle.metrics.specs.Metrics.{more, with_event, with_end}
use Rattle.moment.specs.declared.Moment.{Moment}
use Rattle.moment.specs.Moment.{since_of}
use Rattle.pgoutput.specs.Boundary.{boundary_of}
use Rattle.pgoutput.specs.Boundary as B
use Rattle.replication.specs.CopyData.{copy_data_of}
use Rattle.replication.specs.CopyData as C
use Rattle.progress.specs.Progress.{cell_signal}
use Rattle.worker.specs.declared.State.{State}
use Rattle.worker.specs.declared.State.TheVariants.{Opening, Turn, Drain, Reading, Waiting, Handling, Offering, Ended}
use Rattle.worker.specs.declared.Queue.{Queue}
use Rattle.worker.specs.declared.Queue.TheVariants.{Free, Full, Closed}
use Rattle.worker.specs.declared.Input.{Input}
use Rattle.worker.specs.declared.Event.{Event}
use Rattle.worker.specs.declared.Event.TheVariants.{Nothing, StoppedAt}
use Rattle.worker.specs.declared.Run.{Run}
use Rattle.worker.specs.Run.{lsn, cell_in, with_reader, with_drained, with_metrics, accepted}
use Rattle.worker.specs.Tests.{both, unless}
use Rattle.worker.specs.Step.{Lent, Outcome, back, bad_moment, boundary_by, copy_data_by, done_with, drain_of, ended_with, first_offer_by, handing, handling_of}
use Rattle.worker.specs.Step.{having, idle_of, interval_passed, is_ended, is_readable, is_stopped_at, keep_alive_by, moved, next_event, offering_of, offers}
use Rattle.worker.specs.Step.{opening_by, opening_of, read_by, reading_by, reading_of, refused_with, stalled_by, stalled_of, stalls, stall_ended, step_in}
use Rattle.worker.specs.Step.{status_due, feedback_of, step_of, to_handle, turn_of, waiting_by, waiting_of, waiting_read}
use Rattle.worker.specs.Streaming.{is_copy_done}
use Rattle.thm_one_call.specs.Effects.{Before, before, Writing, nothing, done, status, same, handles, fails, stay, offered, ended, Effects}
use Rattle.thm_one_call.specs.Effects.{StepEffects, ErrorRefused, EndedRefused}

-- ---- the rows of the table

module _ (i : Input) (l : Lent) where
  none : 0 ≤ length l.unread
  none = omega arith

  read_taken : (r : Run) → (read_by r i l).2 ≤ length l.unread
  read_taken r = reads_within r.settings.max_message_size r.reader l.unread i.ended l.payload

  -- what a row shows, where the metric's end was this one before the step; no change of another part of the run touches it
  abbrev Since : Lsn → Run → Outcome → Type 0
  Since end r o = Effects i l (before r.clock.last end r) o

  abbrev K : Run → Outcome → Type 0
  K r o = Since r.metrics.last_wal_end r o

  either : {b : Before} (c : Bool) {x y : Outcome} → Effects i l b x → Effects i l b y → Effects i l b (pick c x y)
  either true hx hy = hx
  either false hx hy = hy

  -- ---- the ends of a step

  handing_keeps : (e : Event) (r : Run) → K r (handing e r l)
  handing_keeps e r = record { taken = none; preserved = refl; writes = nothing refl refl refl; message = same refl; server = stay refl refl }

  moved_keeps : (r : Run) → K r (moved r l)
  moved_keeps r = handing_keeps Nothing r

  -- an event is offered, and perhaps another handed on
  offers_keeps : (end : Lsn) (handed e : Event) (stops : Bool) (reached : Lsn) (r : Run) → Since end r (handing handed (offers e stops reached r) l)
  offers_keeps end handed e stops reached r =
      record { taken = none; preserved = refl; writes = nothing refl refl refl; message = same refl; server = offered refl refl }

  -- a message is whole, and the next step handles it
  handles_keeps : (tag n : ℕ) (in_wait : Bool) (r : Run) → K r (moved (to_handle tag n in_wait r) l)
  handles_keeps tag n in_wait r =
      record { taken = none; preserved = refl; writes = nothing refl refl refl; message = handles refl; server = stay refl refl }

  refused_keeps : {m : Moment} (n : ℕ) (r : Run) → Effects i l (before m r.metrics.last_wal_end r) (refused_with n r l)
  refused_keeps n r = record { taken = none; preserved = refl; writes = nothing refl refl refl; message = same refl; server = stay refl refl }

  ended_keeps : (end : Lsn) (n : ℕ) (r : Run) → Since end r (ended_with n r l)
  ended_keeps end n r = record { taken = none; preserved = refl; writes = nothing refl refl refl; message = same refl; server = ended refl refl }

  done_keeps : (e : Event) (r : Run) → K r (done_with e r l)
  done_keeps e r = record { taken = none; preserved = refl; writes = done refl refl refl; message = same refl; server = stay refl refl }

  -- bytes that were taken, no more than are unread, and a payload buffer change nothing else
  having_keeps : {b : Before} (k : ℕ) (p : List ℕ) (o : Outcome) → k ≤ length l.unread → Effects i l b o → Effects i l b (having k p o)
  having_keeps {b} k p o t h =
      record { taken = t; preserved = h.preserved; writes = by h.writes; message = h.message; server = h.server }
    where
      by : Writing b i l o → Writing b i l (having k p o)
      by (nothing a c d) = nothing a c d
      by (done a c d) = done a c d
      by (status reply a c d) = status reply a c d

  status_keeps : (reply : Bool) (to : State) (r : Run) → K r (feedback_of reply to r i l)
  unfolding feedback_of
  status_keeps reply to r =
      record { taken = none; preserved = refl; writes = status reply refl refl refl; message = same refl; server = stay refl refl }

  -- ---- each state

  opening_by_lem : (a : R.Said) (r : Run) → K r (opening_by a r l)
  opening_by_lem R.more r = moved_keeps _
  opening_by_lem (R.whole tag n) r =
      either (is_copy_both_response tag) (moved_keeps _)
      (either (is_error tag)
      (record { taken = none; preserved = refl; writes = nothing refl refl refl; message = fails refl; server = stay refl refl })
      (moved_keeps _))
  opening_by_lem (R.refused n) r = ended_keeps _ n r

  opening_keeps : (r : Run) → K r (opening_of r i l)
  unfolding opening_of
  opening_keeps r = let x : Result = read_by r i l in having_keeps x.2 x.3 _ (read_taken r) (opening_by_lem x.0 (with_reader x.1 r))

  turn_keeps : (r : Run) → K r (turn_of r i l)
  unfolding turn_of
  turn_keeps r = either (status_due r) (status_keeps false Drain (with_drained 0 r)) (moved_keeps _)

  drain_keeps : (r : Run) → K r (drain_of r i l)
  unfolding drain_of
  drain_keeps r =
      either (both (ltb r.drained 256) (leb 5 (length l.unread))) (moved_keeps _)
      (either (eqb r.drained 0) (moved_keeps _)
      (either i.stop (done_keeps Nothing r) (moved_keeps _)))

  reading_by_lem : (a : R.Said) (r : Run) → K r (reading_by a r l)
  reading_by_lem R.more r = moved_keeps _
  reading_by_lem (R.whole tag n) r = handles_keeps tag n _ (with_drained (more r.drained 1) r)
  reading_by_lem (R.refused n) r = ended_keeps _ n r

  reading_keeps : (r : Run) → K r (reading_of r i l)
  unfolding reading_of
  reading_keeps r = let x : Result = read_by r i l in having_keeps x.2 x.3 _ (read_taken r) (reading_by_lem x.0 (with_reader x.1 r))

  idle_keeps : (r : Run) → K r (idle_of r i l)
  idle_keeps r =
      either (leb r.settings.idle_wakeup_interval (since_of r.clock.last r.clock.wait_began)) (status_keeps false Turn r)
      (moved_keeps _)

  waiting_by_lem : (a : R.Said) (r : Run) → K r (waiting_by a r i l)
  waiting_by_lem R.more r = idle_keeps r
  waiting_by_lem (R.whole tag n) r = handles_keeps tag n _ r
  waiting_by_lem (R.refused n) r = ended_keeps _ n r

  waiting_read_lem : (r : Run) → K r (waiting_read r i l)
  waiting_read_lem r = let x : Result = read_by r i l in having_keeps x.2 x.3 _ (read_taken r) (waiting_by_lem x.0 (with_reader x.1 r))

  waiting_keeps : (r : Run) → K r (waiting_of r i l)
  unfolding waiting_of
  waiting_keeps r =
      either i.stop (done_keeps Nothing r)
      (either (both r.pending (interval_passed r)) (status_keeps false Turn r)
      (either (unless r.pending (cell_signal (cell_in r))) (moved_keeps _)
      (either (is_readable i l) (waiting_read_lem r) (idle_keeps r))))

  -- the run has the message's end in its metrics already
  boundary_by_lem : (was : Lsn) (a : B.Said) (start end : ℕ) (time : ℤ) (from len : ℕ) (r : Run) → Since was r (boundary_by a start end time from len r l)
  boundary_by_lem was (B.begin final t xid) start end time from len r = offers_keeps was Nothing _ _ _ r
  boundary_by_lem was (B.commit position e t) start end time from len r = offers_keeps was Nothing _ _ _ r
  boundary_by_lem was (B.message flag position pf pl cf cl) start end time from len r = offers_keeps was Nothing _ _ _ r
  boundary_by_lem was B.no_boundary start end time from len r = offers_keeps was Nothing _ _ _ r
  boundary_by_lem was (B.refused n) start end time from len r = ended_keeps was _ r

  keep_alive : (was : Lsn) (end : ℕ) (time : ℤ) (reply : Bool) (r : Run) → Since was r (keep_alive_by end time reply r i l)
  unfolding feedback_of
  keep_alive was end time reply r =
      either reply
      (record { taken = none; preserved = refl; writes = status true refl refl refl; message = same refl; server = offered refl refl })
      (offers_keeps was Nothing _ _ _ r)

  copy_data_by_lem : (a : C.Said) (r : Run) → K r (copy_data_by a r i l)
  copy_data_by_lem (C.k end time reply) r = keep_alive r.metrics.last_wal_end end time reply (with_metrics (with_end r.metrics (lsn end)) r)
  copy_data_by_lem (C.w start end time from len) r =
      boundary_by_lem r.metrics.last_wal_end (boundary_of (at l.payload from len)) start end time from len
      (with_metrics (with_end r.metrics (lsn end)) r)
  copy_data_by_lem (C.refused n) r = ended_keeps _ n r

  handling_keeps : (r : Run) → K r (handling_of r i l)
  unfolding handling_of
  handling_keeps r =
      either (is_error r.whole.tag) (ended_keeps _ 19 r)
      (either (is_copy_done r.whole.tag) (done_keeps Nothing r)
      (either (is_copy_data r.whole.tag) (copy_data_by_lem (copy_data_of (take r.whole.len l.payload)) r) (moved_keeps _)))

  next_keeps : (e : Event) (r : Run) → K r (next_event e r l)
  next_keeps e r = either (is_stopped_at r.offer.event) (done_keeps e r) (by r.offer.stops)
    where
      by : (b : Bool) → K r (handing e (pick b (offers (StoppedAt r.offer.reached) false (lsn 0) r) (back r)) l)
      by true = offers_keeps _ e _ _ _ r
      by false = handing_keeps e (back r)

  stalled_by_lem : (q : Queue) (r : Run) → K r (stalled_by q r i l)
  stalled_by_lem Free r = next_keeps r.offer.event (with_metrics (with_event (stall_ended r).metrics) r)
  stalled_by_lem Closed r = next_keeps Nothing (stall_ended r)
  stalled_by_lem Full r = either (interval_passed r) (status_keeps false Offering r) (moved_keeps _)

  stalled_keeps : (r : Run) → K r (stalled_of r i l)
  unfolding stalled_of
  stalled_keeps r = either i.stop (done_keeps Nothing r) (stalled_by_lem i.queue r)

  first_by : (q : Queue) (r : Run) → K r (first_offer_by q r i l)
  first_by Free r = next_keeps r.offer.event (with_metrics (with_event r.metrics) r)
  first_by Closed r = next_keeps Nothing r
  first_by Full r = stalled_keeps (stalls r)

  offering_keeps : (r : Run) → K r (offering_of r i l)
  unfolding offering_of
  offering_keeps r = either r.offer.stalled (stalled_keeps r) (first_by i.queue r)

  state_keeps : (s : State) (r : Run) → K r (step_in s r i l)
  unfolding step_in
  state_keeps Opening r = opening_keeps r
  state_keeps Turn r = turn_keeps r
  state_keeps Drain r = drain_keeps r
  state_keeps Reading r = reading_keeps r
  state_keeps Waiting r = waiting_keeps r
  state_keeps Handling r = handling_keeps r
  state_keeps Offering r = offering_keeps r
  state_keeps Ended r = refused_keeps 2 r

  -- the tests 2 to 5, and the state's row
  step_by : (P : Outcome → Type 0) (r : Run) → ((n : ℕ) → P (refused_with n r l)) → P (step_in r.state (accepted i.moment r) i l)
      → P (step_of r i l)
  unfolding step_of
  step_by P r refused row =
      pick_both P (is_ended r.state) _ _ (refused 2)
      (pick_both P (ltb (length l.payload) (limit_of r.settings.max_message_size)) _ _ (refused 3)
      (pick_both P (ltb (length l.out) 39) _ _ (refused 4) (pick_both P (bad_moment r i.moment) _ _ (refused 5) row)))

  handling_fails : (r : Run) → is_error r.whole.tag ≡ true → (step_in Handling r i l).refusal ≡ 19
  unfolding step_in handling_of
  handling_fails r t = rw t refl

pub step_effects : StepEffects
step_effects r i l = step_by i l (K i l (accepted i.moment r)) r (λ n. refused_keeps i l n r) (state_keeps i l r.state (accepted i.moment r))

pub error_refused : ErrorRefused
error_refused r i l h t =
    step_by i l (λ (o : Outcome). (o.refusal ≡ 19) ⊎ (o.run.state ≡ Handling)) r (λ n. inr h)
    (inl (ap (λ (x : State). (step_in x (accepted i.moment r) i l).refusal) h ∙ handling_fails i l (accepted i.moment r) t))

pub ended_refused : EndedRefused
unfolding step_of
ended_refused r i l h = rw h
