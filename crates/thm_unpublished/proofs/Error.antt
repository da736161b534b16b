-- The error that a run shows is the last whole message: only a step that is refused with 19 ends a run whose remembered message is an ErrorResponse.
use mathlib.Core.Path.{◌≡◌, refl, sym, ap, ◌∙◌, subst}
use mathlib.Core.Bool.{Bool, true, false}
use mathlib.Core.List.{List, [], ◌∷◌, ◌++◌}
use mathlib.Core.Logic.{⊎_elim}
use Prim.Native.Nat.{ℕ, ◌+◌, ◌≤◌, ◌<◌}
use borrow.Author.Tests.{ltb-false}
use native.Mathlib.Omega.{arith}
use lib.ListN.{length, take}
use lib.IntN.{ℤ}
use lib.Dec.{ltb, leb, eqb}
use Rattle.wire.specs.Bytes.{pick, at}
use Rattle.wire.proofs.Laws.{impossible}
use Rattle.frames.specs.Cut.{Item}
use Rattle.frames.specs.Tag.{is_error, is_copy_both_response, is_copy_data}
use Rattle.framing.specs.declared.MessageReader.{MessageReader}
use Rattle.framing.specs.Read.{Result, limit_of, read_of}
use Rattle.framing.specs.Read as R
use Rattle.framing.specs.Feed.{item_of}
use Rattle.framing.proofs.Feed.{one_more}
use Rattle.metrics.specs.Metrics.{with_event, with_reply, with_end}
use Rattle.moment.specs.Moment.{since_of}
use Rattle.pgoutput.specs.Boundary.{boundary_of}
use Rattle.pgoutput.specs.Boundary as B
use Rattle.replication.specs.CopyData.{copy_data_of}
use Rattle.replication.specs.CopyData as C
use Rattle.progress.specs.Progress.{cell_signal}
use Rattle.worker.specs.declared.State.{State}
use Rattle.worker.specs.declared.State.TheVariants.{Opening, Turn, Drain, Reading, Waiting, Handling, Offering, Ended}
use Rattle.worker.specs.declared.Queue.{Queue}
use Rattle.worker.specs.declared.Queue.TheVariants.{Free, Full, Closed}
use Rattle.worker.specs.declared.Input.{Input}
use Rattle.worker.specs.declared.Event.{Event}
use Rattle.worker.specs.declared.Event.TheVariants.{Nothing, KeepAlive, StoppedAt}
use Rattle.worker.specs.declared.Run.{Run}
use Rattle.worker.specs.declared.Whole.{Whole}
use Rattle.worker.specs.Run.{lsn, cell_in, whole_of, with_reader, with_drained, with_metrics, with_state, with_whole, accepted}
use Rattle.worker.specs.Tests.{both, unless}
use Rattle.worker.specs.Step.{Lent, Outcome, back, bad_moment, boundary_by, copy_data_by, drain_of, ended_with, first_offer_by, handing, handling_of, having, idle_of, interval_passed, is_ended, is_readable, is_stopped_at, moved, next_event, offering_of, offers, opening_by, opening_of, read_by, reading_by, reading_of, refused_with, stalled_by, stalled_of, stalls, stall_ended, step_in, status_due, feedback_of, step_of, turn_of, waiting_by, waiting_of}
use Rattle.worker.specs.Streaming.{is_copy_done}
use Rattle.thm_any_calls.specs.Plain.{Msg, Observation, whole_ones}
use Rattle.thm_any_calls.specs.Table.{last_or, last_message}
use Rattle.thm_any_calls.specs.Trace.{Setup, Trace}
use Rattle.thm_any_calls.specs.Calls.{Played, step, lent_to, play_one}
use Rattle.thm_any_calls.proofs.Facts.{Facts, facts_of, agree_now}
use Rattle.thm_any_calls.proofs.Invariant.{Base, Placed, last_one, message_of, limit}
use Rattle.thm_any_calls.proofs.Preserved.{Preserved}
use Rattle.thm_any_calls.proofs.Spans.{items_of, items_more, whole_items}

-- ---- the remembered message stays, or one is to be handled

data Keeps (w : Whole) (o : Outcome) : Type 0 where
  same : o.run.whole ≡ w → Keeps w o
  handles : o.run.state ≡ Handling → Keeps w o

module _ (i : Input) (l : Lent) where
  abbrev K : Run → Outcome → Type 0
  K r o = Keeps r.whole o

  either : {w : Whole} (b : Bool) {x y : Outcome} → Keeps w x → Keeps w y → Keeps w (pick b x y)
  either true hx hy = hx
  either false hx hy = hy

  having_keeps : {w : Whole} (k : ℕ) (b : List ℕ) (o : Outcome) → Keeps w o → Keeps w (having k b o)
  having_keeps k b o (same e) = same e
  having_keeps k b o (handles e) = handles e

  status_keeps : (reply : Bool) (to : State) (r : Run) → K r (feedback_of reply to r i l)
  unfolding feedback_of
  status_keeps reply to r = same refl

  turn_keeps : (r : Run) → K r (turn_of r i l)
  unfolding turn_of
  turn_keeps r = either (status_due r) (status_keeps false Drain (with_drained 0 r)) (same refl)

  drain_keeps : (r : Run) → K r (drain_of r i l)
  unfolding drain_of
  drain_keeps r =
      either (both (ltb r.drained 256) (leb 5 (length l.unread))) (same refl)
      (either (eqb r.drained 0) (same refl)
      (either i.stop (same refl) (same refl)))

  reading_by_lem : (a : R.Said) (r : Run) → K r (reading_by a r l)
  reading_by_lem R.more r = same refl
  reading_by_lem (R.whole tag n) r = handles refl
  reading_by_lem (R.refused n) r = same refl

  reading_keeps : (r : Run) → K r (reading_of r i l)
  unfolding reading_of
  reading_keeps r = let x : Result = read_by r i l in having_keeps x.2 x.3 _ (reading_by_lem x.0 (with_reader x.1 r))

  idle_keeps : (r : Run) → K r (idle_of r i l)
  idle_keeps r =
      either (leb r.settings.idle_wakeup_interval (since_of r.clock.last r.clock.wait_began)) (status_keeps false Turn r) (same refl)

  waiting_by_lem : (a : R.Said) (r : Run) → K r (waiting_by a r i l)
  waiting_by_lem R.more r = idle_keeps r
  waiting_by_lem (R.whole tag n) r = handles refl
  waiting_by_lem (R.refused n) r = same refl

  waiting_keeps : (r : Run) → K r (waiting_of r i l)
  unfolding waiting_of
  waiting_keeps r =
      let x : Result = read_by r i l in
      either i.stop (same refl)
      (either (both r.pending (interval_passed r)) (status_keeps false Turn r)
      (either (unless r.pending (cell_signal (cell_in r))) (same refl)
      (either (is_readable i l) (having_keeps x.2 x.3 _ (waiting_by_lem x.0 (with_reader x.1 r))) (idle_keeps r))))

  boundary_by_lem : (a : B.Said) (start end : ℕ) (time : ℤ) (from len : ℕ) (r : Run) → K r (boundary_by a start end time from len r l)
  boundary_by_lem (B.begin final t xid) start end time from len r = same refl
  boundary_by_lem (B.commit position e t) start end time from len r = same refl
  boundary_by_lem (B.message flag position pf pl cf cl) start end time from len r = same refl
  boundary_by_lem B.no_boundary start end time from len r = same refl
  boundary_by_lem (B.refused n) start end time from len r = same refl

  copy_data_by_lem : (a : C.Said) (r : Run) → K r (copy_data_by a r i l)
  copy_data_by_lem (C.k end time reply) r =
      let s : Run = with_metrics (with_end r.metrics (lsn end)) r in
      let offered : Run = offers (KeepAlive (lsn end) time reply) false (lsn 0) s in
      either reply (status_keeps true Offering (with_metrics (with_reply offered.metrics) offered)) (same refl)
  copy_data_by_lem (C.w start end time from len) r =
      boundary_by_lem (boundary_of (at l.payload from len)) start end time from len (with_metrics (with_end r.metrics (lsn end)) r)
  copy_data_by_lem (C.refused n) r = same refl

  next_keeps : (e : Event) (r : Run) → K r (next_event e r l)
  next_keeps e r = either (is_stopped_at r.offer.event) (same refl) (by r.offer.stops)
    where
      by : (b : Bool) → K r (handing e (pick b (offers (StoppedAt r.offer.reached) false (lsn 0) r) (back r)) l)
      by true = same refl
      by false = same refl

  stalled_by_lem : (q : Queue) (r : Run) → K r (stalled_by q r i l)
  stalled_by_lem Free r = next_keeps r.offer.event (with_metrics (with_event (stall_ended r).metrics) r)
  stalled_by_lem Closed r = next_keeps Nothing (stall_ended r)
  stalled_by_lem Full r = either (interval_passed r) (status_keeps false Offering r) (same refl)

  stalled_keeps : (r : Run) → K r (stalled_of r i l)
  unfolding stalled_of
  stalled_keeps r = either i.stop (same refl) (stalled_by_lem i.queue r)

  first_by : (q : Queue) (r : Run) → K r (first_offer_by q r i l)
  first_by Free r = next_keeps r.offer.event (with_metrics (with_event r.metrics) r)
  first_by Closed r = next_keeps Nothing r
  first_by Full r = stalled_keeps (stalls r)

  offering_keeps : (r : Run) → K r (offering_of r i l)
  unfolding offering_of
  offering_keeps r = either r.offer.stalled (stalled_keeps r) (first_by i.queue r)

-- ---- what holds of the remembered message

-- all states but Handling and Ended
abbrev is_other : State → Bool
is_other Opening = true
is_other Turn = true
is_other Drain = true
is_other Reading = true
is_other Waiting = true
is_other Handling = false
is_other Offering = true
is_other Ended = false

-- of a run with its payload buffer, whose last whole message is m: an error that it shows is m, and it remembers none before
pub record Remembers (m : Msg) (r : Run) (p : List ℕ) : Type 0 where
  pub shown : is_ended r.state ≡ true → is_error r.whole.tag ≡ true → m ≡ message_of r.whole p
  pub clean : is_other r.state ≡ true → is_error r.whole.tag ≡ false

-- a message that was no error
kept_remembers : (m : Msg) (w : Whole) (o : Outcome) → is_error w.tag ≡ false → Keeps w o → Remembers m o.run o.payload
kept_remembers m w o e (same k) =
    let q : is_error o.run.whole.tag ≡ false = ap (λ (x : Whole). is_error x.tag) k ∙ e in
    record { shown = λ a b. impossible cc; clean = λ a. q }
kept_remembers m w o e (handles k) =
    let q : is_ended o.run.state ≡ false = ap is_ended k in
    let h : is_other o.run.state ≡ false = ap is_other k in
    record { shown = λ a b. impossible cc; clean = λ a. impossible cc }

-- ---- where a run stands

-- the settings are those that the run was begun with
limit_is : (x : Setup) (h : Trace) (z : Played) → Preserved x h z → is_ended z.run.state ≡ false
    → limit_of z.run.settings.max_message_size ≡ limit x
unfolding facts_of
limit_is x h z w e = ap (λ (f : Facts). limit_of f.settings.max_message_size) (agree_now z.run.state _ _ e w.agrees)

-- a step that is not refused with 3 finds the run in its place
pub placed : (x : Setup) (h : Trace) (z : Played) → Preserved x h z → is_ended z.run.state ≡ false
    → ltb (length z.payload) (limit_of z.run.settings.max_message_size) ≡ false → Placed x z.run.state z
placed x h z w e l =
    let k : limit_of z.run.settings.max_message_size ≤ length z.payload = ltb-false _ _ l in
    let q = limit_is x h z w e in
    ⊎_elim (λ s. let b : length z.payload < limit x = s.buffer in absurd (omega arith)) (λ p. p) w.invariant

-- the largest message size that the run has is the one of the setup
setting_is : (x : Setup) (h : Trace) (z : Played) → Preserved x h z → is_ended z.run.state ≡ false
    → z.run.settings.max_message_size ≡ x.settings.max_message_size
unfolding facts_of
setting_is x h z w e = ap (λ (f : Facts). f.settings.max_message_size) (agree_now z.run.state _ _ e w.agrees)

-- the message that waits to be handled is the last whole one
pub handled_is : (x : Setup) (z : Played) → Placed x Handling z
    → last_message (limit x) (take z.taken x.bytes) ≡ message_of z.run.whole z.payload
handled_is x z p = ap (last_or (0, [])) p.base.account.whole ∙ last_one (0, []) (message_of z.run.whole z.payload) p.ms

-- ---- a step

module _ (x : Setup) (h : Trace) (z : Played) (w : Preserved x h z)
    (v : Remembers (last_message (limit x) (take z.taken x.bytes)) z.run z.payload) (i : Input) (n : ℕ) (out : List ℕ) where
  abbrev l : Lent
  l = lent_to x.bytes z n out

  abbrev r : Run
  r = accepted i.moment z.run

  record Now (o : Outcome) : Type 0 where
    now : Remembers (last_message (limit x) (take (z.taken + o.taken) x.bytes)) o.run o.payload

  either_now : (b : Bool) {y y' : Outcome} → (b ≡ true → Now y) → (b ≡ false → Now y') → Now (pick b y y')
  either_now true f g = f refl
  either_now false f g = g refl

  early : (k : ℕ) → Now (refused_with k z.run l)
  early k =
      let q : z.taken + 0 ≡ z.taken = omega arith in
      record { now = subst (λ (t : ℕ). Remembers (last_message (limit x) (take t x.bytes)) z.run z.payload) (sym q) v }

  kept : (o : Outcome) → is_other z.run.state ≡ true → Keeps z.run.whole o → Now o
  kept o e k = record { now = kept_remembers _ z.run.whole o (v.clean e) k }

  -- a message that a read makes whole is the last one then
  read_last : {ms : List Msg} {ts ws : List Observation} → Base x z.run.reader z.payload z.taken ts ms ws → is_ended z.run.state ≡ false
      → (tag k : ℕ) → (read_by r i l).0 ≡ R.whole tag k
      → last_message (limit x) (take (z.taken + (read_by r i l).2) x.bytes) ≡ (tag, take k (read_by r i l).3)
  read_last {ms} b e tag k q = by z.run.settings.max_message_size (setting_is x h z w e) q
    where
      by : (s : ℕ) → s ≡ x.settings.max_message_size
          → (read_of s z.run.reader l.unread i.ended z.payload).0 ≡ R.whole tag k
          → last_message (limit x) (take (z.taken + (read_of s z.run.reader l.unread i.ended z.payload).2) x.bytes)
          ≡ (tag, take k (read_of s z.run.reader l.unread i.ended z.payload).3)
      by s es = subst
          (λ (j : ℕ). (read_of j z.run.reader l.unread i.ended z.payload).0 ≡ R.whole tag k
          → last_message (limit x) (take (z.taken + (read_of j z.run.reader l.unread i.ended z.payload).2) x.bytes)
          ≡ (tag, take k (read_of j z.run.reader l.unread i.ended z.payload).3))
          (sym es) set
        where
          set : (read_of x.settings.max_message_size z.run.reader l.unread i.ended z.payload).0 ≡ R.whole tag k
              → last_message (limit x)
              (take (z.taken + (read_of x.settings.max_message_size z.run.reader l.unread i.ended z.payload).2) x.bytes)
              ≡ (tag, take k (read_of x.settings.max_message_size z.run.reader l.unread i.ended z.payload).3)
          set q =
              let p : List ℕ = (read_of x.settings.max_message_size z.run.reader l.unread i.ended z.payload).3 in
              let f = one_more x.settings.max_message_size x.bytes z.payload b.room (items_of ms, z.run.reader, z.taken, z.payload)
              (record { unread = n; ended = i.ended }) (sym b.items, b.within, b.follows, refl) in
              let m : Msg = (tag, take k p) in
              let a : items_of ms ++ item_of (R.whole tag k) p ≡ items_of (ms ++ (m ∷ [])) = sym (items_more ms m) in
              ap (λ (is : List Item). last_or (0, []) (whole_ones is)) (sym f.0 ∙ (ap (λ (y : R.Said). items_of ms ++ item_of y p) q ∙ a))
              ∙ (ap (last_or (0, [])) (whole_items (ms ++ (m ∷ []))) ∙ last_one (0, []) m ms)

  -- ---- each state

  opening_now : (a : R.Said) (c : MessageReader) → is_other z.run.state ≡ true
      → ((tag k : ℕ) → a ≡ R.whole tag k
      → last_message (limit x) (take (z.taken + (read_by r i l).2) x.bytes) ≡ (tag, take k (read_by r i l).3))
      → Now (having (read_by r i l).2 (read_by r i l).3 (opening_by a (with_reader c r) l))
  opening_now R.more c e f = kept _ e (same refl)
  opening_now (R.whole tag k) c e f =
      by (is_copy_both_response tag) (is_error tag) (f tag k refl)
    where
      by : (d g : Bool) → last_message (limit x) (take (z.taken + (read_by r i l).2) x.bytes) ≡ (tag, take k (read_by r i l).3)
          → Now (having (read_by r i l).2 (read_by r i l).3
          (pick d (moved (with_state Turn (with_reader c r)) l)
          (pick g (ended_with 19 (with_whole (whole_of tag k false) (with_reader c r)) l) (moved (with_reader c r) l))))
      by true g q = kept _ e (same refl)
      by false true q = record { now = record { shown = λ a b. q; clean = λ a. impossible cc } }
      by false false q = kept _ e (same refl)
  opening_now (R.refused k) c e f = kept _ e (same refl)

  handling_now : Placed x Handling z → Now (handling_of r i l)
  unfolding handling_of
  handling_now p =
      either_now (is_error z.run.whole.tag)
      (λ e.
      let q : z.taken + 0 ≡ z.taken = omega arith in
      let k : last_message (limit x) (take (z.taken + 0) x.bytes) ≡ message_of z.run.whole z.payload =
      subst (λ (t : ℕ). last_message (limit x) (take t x.bytes) ≡ message_of z.run.whole z.payload) (sym q) (handled_is x z p) in
      record { now = record { shown = λ a b. k; clean = λ a. impossible cc } })
      (λ e.
      either_now (is_copy_done z.run.whole.tag) (λ d. free e (same refl))
      (λ d. either_now (is_copy_data z.run.whole.tag) (λ c. free e (copy_data_by_lem i l (copy_data_of (take z.run.whole.len z.payload)) r))
      (λ c. free e (same refl))))
    where
      free : {o : Outcome} → is_error z.run.whole.tag ≡ false → Keeps z.run.whole o → Now o
      free {o} e k = record { now = kept_remembers _ z.run.whole o e k }

  state_now : (s : State) → z.run.state ≡ s → is_ended s ≡ false → Placed x s z → Now (step_in s r i l)
  unfolding step_in opening_of
  state_now Opening e d p =
      opening_now (read_by r i l).0 (read_by r i l).1 (ap is_other e) (λ tag k q. read_last p.base (ap is_ended e) tag k q)
  state_now Turn e d p = kept _ (ap is_other e) (turn_keeps i l r)
  state_now Drain e d p = kept _ (ap is_other e) (drain_keeps i l r)
  state_now Reading e d p = kept _ (ap is_other e) (reading_keeps i l r)
  state_now Waiting e d p = kept _ (ap is_other e) (waiting_keeps i l r)
  state_now Handling e d p = handling_now p
  state_now Offering e d p = kept _ (ap is_other e) (offering_keeps i l r)
  state_now Ended e d p = impossible cc

  step_now : Now (step_of z.run i l)
  unfolding step_of
  step_now =
      either_now (is_ended z.run.state) (λ a. early 2)
      (λ a.
      either_now (ltb (length z.payload) (limit_of z.run.settings.max_message_size)) (λ b. early 3)
      (λ b.
      either_now (ltb (length out) 39) (λ c. early 4)
      (λ c. either_now (bad_moment z.run i.moment) (λ d. early 5) (λ d. state_now z.run.state refl a (placed x h z w a b)))))

  pub step_remembers : Remembers (last_message (limit x) (take (play_one x.bytes z (step i n out)).taken x.bytes))
      (play_one x.bytes z (step i n out)).run (play_one x.bytes z (step i n out)).payload
  step_remembers = step_now.now
