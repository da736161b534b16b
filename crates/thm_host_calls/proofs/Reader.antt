-- The reader of a run that has not ended remembers no refusal, and holds no whole message: so a run in Opening or Reading waits for input. NextStep
-- takes both.
use mathlib.Core.Path.{◌≡◌, refl, ap, ◌∙◌}
use mathlib.Core.Bool.{Bool, true, false}
use mathlib.Core.List.{List}
use mathlib.Core.Logic.{◌⊎◌, inl, inr}
use Prim.Native.Nat.{ℕ, ◌+◌, ◌-◌, min}
use lib.ListN.{length, take, drop}
use lib.IntN.{ℤ}
use lib.Dec.{ltb, leb, eqb}
use Rattle.wire.specs.Bytes.{pick, at, put}
use Rattle.wire.specs.Int.{is_negative}
use Rattle.frames.specs.Message.{length_field}
use Rattle.frames.specs.Tag.{is_error, is_copy_both_response, is_copy_data}
use Rattle.framing.specs.declared.MessageReader.{MessageReader}
use Rattle.framing.specs.Read.{Said, Result, limit_of, payload_of, judged_of, header_of, read_of}
use Rattle.framing.specs.Read as R
use Rattle.framing.proofs.Laws.{pick_both}
use Rattle.moment.specs.Moment.{since_of}
use Rattle.pgoutput.specs.Boundary.{boundary_of}
use Rattle.pgoutput.specs.Boundary as B
use Rattle.progress.specs.Progress.{cell_signal}
use Rattle.replication.specs.CopyData.{copy_data_of}
use Rattle.replication.specs.CopyData as C
use Rattle.worker.specs.declared.Event.{Event}
use Rattle.worker.specs.declared.Input.{Input}
use Rattle.worker.specs.declared.Queue.{Queue}
use Rattle.worker.specs.declared.Queue.TheVariants.{Free, Full, Closed}
use Rattle.worker.specs.declared.Run.{Run}
use Rattle.worker.specs.declared.State.{State}
use Rattle.worker.specs.declared.State.TheVariants.{Opening, Turn, Drain, Reading, Waiting, Handling, Offering, Ended}
use Rattle.worker.specs.Tests.{both, unless}
use Rattle.worker.specs.declared.Event.TheVariants.{Nothing}
use Rattle.metrics.specs.Metrics.{with_event, with_end}
use Rattle.worker.specs.Run.{lsn, cell_in, with_reader, with_metrics, accepted}
use Rattle.worker.specs.Streaming.{is_copy_done}
use Rattle.worker.specs.Step.{Lent, Outcome, bad_moment, boundary_by, copy_data_by, drain_of, first_offer_by, handling_of, idle_of, interval_passed, is_ended, is_readable, is_stopped_at, next_event, offering_of, opening_by, opening_of, read_by, reading_by, reading_of, stall_ended, stalls, stalled_by, stalled_of, status_due, step_in, step_of, feedback_of, turn_of, waiting_by, waiting_of}

-- ---- a read

-- an answer that is a refusal
abbrev Refuses : Said → Type 0
Refuses R.more = ⊥
Refuses (R.whole tag n) = ⊥
Refuses (R.refused n) = Unit

-- the reader after a read remembers a refusal only where the read is refused
abbrev Clear : Result → Type 0
Clear x = Refuses x.0 ⊎ (x.1.refused ≡ false)

payload_clear : (r : MessageReader) (u : List ℕ) (e : Bool) (p : List ℕ) → Clear (payload_of r u e p)
unfolding payload_of
payload_clear r u e p =
    let n : ℕ = min r.payload_len (length p) in
    let have : ℕ = r.filled - 5 in
    let k : ℕ = min (n - have) (length u) in
    pick_both Clear (leb n have) _ _ (inr refl) (pick_both Clear (ltb (have + k) n) _ _ (inr refl) (inr refl))

judged_clear : (limit : ℕ) (h u p : List ℕ) → Clear (judged_of limit h u p)
unfolding judged_of
judged_clear limit h u p =
    pick_both Clear (is_negative 4 (length_field h)) _ _ (inl tt)
    (pick_both Clear (ltb (length_field h) 4) _ _ (inl tt)
    (pick_both Clear (ltb limit (length_field h - 4)) _ _ (inl tt) (payload_clear _ u false p)))

header_clear : (limit : ℕ) (r : MessageReader) (u : List ℕ) (e : Bool) (p : List ℕ) → Clear (header_of limit r u e p)
unfolding header_of
header_clear limit r u e p =
    let k : ℕ = min (5 - r.filled) (length u) in
    let h : List ℕ = put r.header r.filled (take k u) in
    pick_both Clear (ltb (r.filled + k) 5) _ _ (inr refl) (judged_clear limit h (drop k u) p)

read_clear : (s : ℕ) (r : MessageReader) (u : List ℕ) (e : Bool) (p : List ℕ) → Clear (read_of s r u e p)
unfolding read_of
read_clear s r u e p =
    pick_both Clear (ltb (length p) (limit_of s)) _ _ (inl tt)
    (pick_both Clear r.refused _ _ (inl tt)
    (pick_both Clear (ltb r.filled 5) _ _ (header_clear (limit_of s) r u e p) (payload_clear r u e p)))

-- ---- the cases of the table

-- the run has ended, or its reader remembers no refusal
abbrev pub Fine : Run → Type 0
Fine r = (r.state ≡ Ended) ⊎ (r.reader.refused ≡ false)

module _ (i : Input) (l : Lent) where
  -- a case that reads nothing leaves the reader
  record Same (r : Run) (o : Outcome) : Type 0 where
    same : o.run.reader ≡ r.reader

  either : {r : Run} (c : Bool) {x y : Outcome} → Same r x → Same r y → Same r (pick c x y)
  either true a b = a
  either false a b = b

  turn_same : (r : Run) → Same r (turn_of r i l)
  unfolding turn_of feedback_of
  turn_same r = either (status_due r) (record { same = refl }) (record { same = refl })

  drain_same : (r : Run) → Same r (drain_of r i l)
  unfolding drain_of
  drain_same r =
      either (both (ltb r.drained 256) (leb 5 (length l.unread))) (record { same = refl }) (either (eqb r.drained 0) (record { same = refl }) (either i.stop (record { same = refl }) (record { same = refl })))

  idle_same : (r : Run) → Same r (idle_of r i l)
  unfolding feedback_of
  idle_same r = either (leb r.settings.idle_wakeup_interval (since_of r.clock.last r.clock.wait_began)) (record { same = refl }) (record { same = refl })

  boundary_same : (a : B.Said) (start end : ℕ) (time : ℤ) (from len : ℕ) (r : Run) → Same r (boundary_by a start end time from len r l)
  boundary_same (B.begin final t xid) start end time from len r = (record { same = refl })
  boundary_same (B.commit position e t) start end time from len r = (record { same = refl })
  boundary_same (B.message flag position pf pl cf cl) start end time from len r = (record { same = refl })
  boundary_same B.no_boundary start end time from len r = (record { same = refl })
  boundary_same (B.refused n) start end time from len r = (record { same = refl })

  copied_same : (a : C.Said) (r : Run) → Same r (copy_data_by a r i l)
  unfolding feedback_of
  copied_same (C.k end time reply) r = either reply (record { same = refl }) (record { same = refl })
  copied_same (C.w start end time from len) r =
      record {
        same = (boundary_same (boundary_of (at l.payload from len)) start end time from len (with_metrics (with_end r.metrics (lsn end)) r)).same;
      }
  copied_same (C.refused n) r = (record { same = refl })

  handling_same : (r : Run) → Same r (handling_of r i l)
  unfolding handling_of
  handling_same r =
      either (is_error r.whole.tag) (record { same = refl })
      (either (is_copy_done r.whole.tag) (record { same = refl })
      (either (is_copy_data r.whole.tag) (copied_same (copy_data_of (take r.whole.len l.payload)) r) (record { same = refl })))

  next_same : (e : Event) (r : Run) → Same r (next_event e r l)
  next_same e r = by (is_stopped_at r.offer.event) r.offer.stops refl refl
    where
      by : (a b : Bool) → is_stopped_at r.offer.event ≡ a → r.offer.stops ≡ b → Same r (next_event e r l)
      by true b p q = rw p (record { same = refl })
      by false true p q = rw (p, q) (record { same = refl })
      by false false p q = rw (p, q) (record { same = refl })

  stalled_by_lem : (q : Queue) (r : Run) → Same r (stalled_by q r i l)
  unfolding feedback_of
  stalled_by_lem Free r = record { same = (next_same r.offer.event (with_metrics (with_event (stall_ended r).metrics) r)).same }
  stalled_by_lem Closed r = record { same = (next_same Nothing (stall_ended r)).same }
  stalled_by_lem Full r = either (interval_passed r) (record { same = refl }) (record { same = refl })

  stalled_same : (r : Run) → Same r (stalled_of r i l)
  unfolding stalled_of
  stalled_same r = either i.stop (record { same = refl }) (stalled_by_lem i.queue r)

  first_by : (q : Queue) (r : Run) → Same r (first_offer_by q r i l)
  first_by Free r = record { same = (next_same r.offer.event (with_metrics (with_event r.metrics) r)).same }
  first_by Closed r = next_same Nothing r
  first_by Full r = record { same = (stalled_same (stalls r)).same }

  offering_same : (r : Run) → Same r (offering_of r i l)
  unfolding offering_of
  offering_same r = either r.offer.stalled (stalled_same r) (first_by i.queue r)

  -- a case that leaves the reader leaves it clear
  kept : {r : Run} {o : Outcome} → r.reader.refused ≡ false → Same r o → Fine o.run
  kept h e = inr (ap (λ (x : MessageReader). x.refused) e.same ∙ h)

  -- ---- cases that read

  opening_fine : (a : Said) (r : Run) → Refuses a ⊎ (r.reader.refused ≡ false) → Fine (opening_by a r l).run
  opening_fine R.more r (inl h) = absurd h
  opening_fine R.more r (inr h) = inr h
  opening_fine (R.whole tag n) r (inl h) = absurd h
  opening_fine (R.whole tag n) r (inr h) = by (is_copy_both_response tag) (is_error tag) refl refl
    where
      by : (c d : Bool) → is_copy_both_response tag ≡ c → is_error tag ≡ d → Fine (opening_by (R.whole tag n) r l).run
      by true d p q = inr (rw p h)
      by false true p q = inl (rw (p, q) refl)
      by false false p q = inr (rw (p, q) h)
  opening_fine (R.refused n) r h = inl refl

  reading_fine : (a : Said) (r : Run) → Refuses a ⊎ (r.reader.refused ≡ false) → Fine (reading_by a r l).run
  reading_fine R.more r (inl h) = absurd h
  reading_fine R.more r (inr h) = inr h
  reading_fine (R.whole tag n) r (inl h) = absurd h
  reading_fine (R.whole tag n) r (inr h) = inr h
  reading_fine (R.refused n) r h = inl refl

  waiting_fine : (a : Said) (r : Run) → Refuses a ⊎ (r.reader.refused ≡ false) → Fine (waiting_by a r i l).run
  waiting_fine R.more r (inl h) = absurd h
  waiting_fine R.more r (inr h) = kept h (idle_same r)
  waiting_fine (R.whole tag n) r (inl h) = absurd h
  waiting_fine (R.whole tag n) r (inr h) = inr h
  waiting_fine (R.refused n) r h = inl refl

  reads : (r : Run) → Clear (read_by r i l)
  reads r = read_clear r.settings.max_message_size r.reader l.unread i.ended l.payload

  waits_fine : (r : Run) → r.reader.refused ≡ false → Fine (waiting_of r i l).run
  unfolding waiting_of feedback_of
  waits_fine r h =
      pick_both (λ (o : Outcome). Fine o.run) i.stop _ _ (inl refl)
      (pick_both (λ (o : Outcome). Fine o.run) (both r.pending (interval_passed r)) _ _ (inr h)
      (pick_both (λ (o : Outcome). Fine o.run) (unless r.pending (cell_signal (cell_in r))) _ _ (inr h)
      (pick_both (λ (o : Outcome). Fine o.run) (is_readable i l) _ _ (waiting_fine (read_by r i l).0 (with_reader (read_by r i l).1 r) (reads r))
      (kept h (idle_same r)))))

  state_fine : (s : State) (r : Run) → r.reader.refused ≡ false → Fine (step_in s r i l).run
  unfolding step_in opening_of reading_of
  state_fine Opening r h = opening_fine (read_by r i l).0 (with_reader (read_by r i l).1 r) (reads r)
  state_fine Turn r h = kept h (turn_same r)
  state_fine Drain r h = kept h (drain_same r)
  state_fine Reading r h = reading_fine (read_by r i l).0 (with_reader (read_by r i l).1 r) (reads r)
  state_fine Waiting r h = waits_fine r h
  state_fine Handling r h = kept h (handling_same r)
  state_fine Offering r h = kept h (offering_same r)
  state_fine Ended r h = inr h

  pub step_fine : (r : Run) → Fine r → Fine (step_of r i l).run
  unfolding step_of
  step_fine r (inl h) = inl (rw h refl)
  step_fine r (inr h) =
      let P : Outcome → Type 0 = λ o. Fine o.run in
      pick_both P (is_ended r.state) _ _ (inr h)
      (pick_both P (ltb (length l.payload) (limit_of r.settings.max_message_size)) _ _ (inr h)
      (pick_both P (ltb (length l.out) 39) _ _ (inr h)
      (pick_both P (bad_moment r i.moment) _ _ (inr h) (state_fine r.state (accepted i.moment r) h))))
