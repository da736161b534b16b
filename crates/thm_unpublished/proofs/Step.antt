-- One step of the same run, lent bytes that agree where the step looks at them: the step's definition, state by state.
use mathlib.Core.Path.{◌≡◌, refl, sym, ap, ◌∙◌}
use mathlib.Core.Bool.{Bool, true, false}
use mathlib.Core.List.{List, ◌++◌}
use mathlib.Core.Option.{Option, none}
use Prim.Native.Nat.{ℕ, ◌+◌, ◌-◌, ◌≤◌, ◌<◌, min}
use native.Mathlib.Nat.{min-le_left}
use native.Mathlib.Omega.{arith}
use lib.ListN.{length, get_or, take, drop, length-append, length-take, length-drop, get_or-append}
use lib.Seq.{take-append_seam, get_or-append-add, get_or-drop}
use lib.IntN.{ℤ}
use lib.Dec.{ltb, leb, eqb}
use borrow.Author.Tests.{ltb-true, ltb-false}
use Rattle.wire.specs.Bytes.{pick, put, at, be_bytes}
use Rattle.wire.proofs.Laws.{by_test, part_of_front}
use Rattle.framing.specs.declared.MessageReader.{MessageReader}
use Rattle.framing.specs.Read.{Result, limit_of, fresh, shut, at_byte, payload_of, judged_of, header_of, read_of}
use Rattle.framing.specs.Read as R
use Rattle.frames.specs.Message.{length_field, framed}
use Rattle.frames.specs.Tag.{is_error, is_copy_both_response, is_copy_data}
use Rattle.frames.proofs.Frame.{length_framed}
use Rattle.wire.specs.Int.{is_negative}
use Rattle.frontend.specs.Frontend.{copy_data, copy_done_message, status_body, status_update}
use Rattle.metrics.specs.Metrics.{with_event, with_reply, with_end}
use Rattle.moment.specs.Moment.{since_of}
use Rattle.pgoutput.specs.Boundary.{boundary_of}
use Rattle.pgoutput.specs.Boundary as B
use Rattle.replication.specs.CopyData.{copy_data_of}
use Rattle.replication.specs.CopyData as C
use Rattle.replication.proofs.LayoutXLogData.{data_within}
use Rattle.progress.specs.Progress.{cell_signal, cell_position}
use Rattle.worker.specs.declared.State.{State}
use Rattle.worker.specs.declared.State.TheVariants.{Opening, Turn, Drain, Reading, Waiting, Handling, Offering, Ended}
use Rattle.worker.specs.declared.Queue.{Queue}
use Rattle.worker.specs.declared.Queue.TheVariants.{Free, Full, Closed}
use Rattle.worker.specs.declared.Input.{Input}
use Rattle.worker.specs.declared.Event.{Event}
use Rattle.worker.specs.declared.Event.TheVariants.{Nothing, KeepAlive, StoppedAt}
use Rattle.worker.specs.declared.Run.{Run}
use Rattle.worker.specs.Events as E
use Rattle.worker.specs.Run.{lsn, cell_in, with_reader, with_drained, with_metrics, accepted, with_state}
use Rattle.worker.specs.Tests.{both, unless}
use Rattle.worker.specs.Step.{Lent, Outcome, back, bad_moment, boundary_by, confirmed, copy_data_by, done_with, drain_of, feedback_of, first_offer_by, handing, handling_of, having, idle_of, interval_passed, is_ended, is_readable, is_stopped_at, keep_alive_by, moved, next_event, offering_of, offers, opening_by, opening_of, read_by, reading_by, reading_of, refused_with, stall_ended, stalled_by, stalled_of, stalls, status_due, step_in, step_of, turn_of, waited_by, waiting_by, waiting_of}
use Rattle.worker.specs.Streaming.{is_copy_done}
use Rattle.thm_any_calls.specs.Happened.{happened_of}
use Rattle.frontend.proofs.Laws.{length_status}
use Rattle.thm_unpublished.specs.Alike.{View, boundary_in, view_of, AlikePayload}
use Rattle.thm_unpublished.specs.Same.{Same, all_left_out}
use Rattle.thm_unpublished.proofs.Lists.{same_front, take_length_same}

-- ---- a buffer over which the same is written

length_over : (d s : List ℕ) (i : ℕ) → length (put d i s) ≡ length (take i d) + (length s + length (drop (i + length s) d))
unfolding put
length_over d s i = simp length-append

pub same_length_over : (d e s t : List ℕ) (i : ℕ) → length d ≡ length e → length s ≡ length t → length (put d i s) ≡ length (put e i t)
same_length_over d e s t i ld ls =
    let a = length_over d s i in
    let b = length_over e t i in
    let x : length (take i d) ≡ length (take i e) = take_length_same d e i ld in
    let y : length (drop (i + length s) d) ≡ length d - (i + length s) = length-drop (i + length s) d in
    let z : length (drop (i + length t) e) ≡ length e - (i + length t) = length-drop (i + length t) e in
    omega arith

-- the front is what was written
front_over : (d s : List ℕ) (n : ℕ) → n ≡ length s → take n (put d 0 s) ≡ s
unfolding put
front_over d s n e = rw e (take-append_seam s (drop (0 + length s) d))

-- a place is what was written, or as it was
pub place_over : (d e s : List ℕ) (j : ℕ) → get_or d j 0 ≡ get_or e j 0 → get_or (put d 0 s) j 0 ≡ get_or (put e 0 s) j 0
unfolding put
place_over d e s j h =
    by_test (ltb j (length s))
    (λ x.
    let k : j < length s = ltb-true _ _ x in
    get_or-append s (drop (0 + length s) d) 0 j k ∙ sym (get_or-append s (drop (0 + length s) e) 0 j k))
    (λ x.
    let k : length s ≤ j = ltb-false _ _ x in
    let q : length s + (j - length s) ≡ j = omega arith in
    let z : 0 + length s + (j - length s) ≡ j = omega arith in
    behind_it d q z ∙ (h ∙ sym (behind_it e q z)))
  where
    behind_it : (f : List ℕ) → length s + (j - length s) ≡ j → 0 + length s + (j - length s) ≡ j → get_or (s ++ drop (0 + length s) f) j 0 ≡ get_or f j 0
    behind_it f q z =
        ap (λ (i : ℕ). get_or (s ++ drop (0 + length s) f) i 0) (sym q)
        ∙ (get_or-append-add s (drop (0 + length s) f) (j - length s) 0 ∙ (get_or-drop (0 + length s) f (j - length s) 0 ∙ ap (λ (i : ℕ). get_or f i 0) z))

length_update : (position : ℕ) (time : ℤ) (reply : Bool) → length (status_update position time reply) ≡ 39
unfolding status_update copy_data
length_update position time reply =
    length_framed 100 (status_body position time reply) ∙ ap (λ (n : ℕ). n + 5) (length_status position time reply)

length_done : length copy_done_message ≡ 5
unfolding copy_done_message framed be_bytes
length_done = refl

-- ---- a read

-- the same answer, reader and taken count, and buffers of one length
pub record SameRead (x y : Result) : Type 0 where
  pub answer : x.0 ≡ y.0
  pub reader : x.1 ≡ y.1
  pub taken : x.2 ≡ y.2
  pub buffer : length x.3 ≡ length y.3

read_either : (b : Bool) {x x' y y' : Result} → SameRead x x' → SameRead y y' → SameRead (pick b x y) (pick b x' y')
read_either true h k = h
read_either false h k = k

payload_same : (r : MessageReader) (u v : List ℕ) (e : Bool) (p q : List ℕ) → length u ≡ length v → length p ≡ length q
    → SameRead (payload_of r u e p) (payload_of r v e q)
unfolding payload_of
payload_same r u v e p q lu lp =
    let n : ℕ = min r.payload_len (length p) in
    let have : ℕ = r.filled - 5 in
    let k : ℕ = min (n - have) (length u) in
    let buffers : length (put p have (take k u)) ≡ length (put q have (take k v)) =
    same_length_over p q (take k u) (take k v) have lp (take_length_same u v k lu) in
    rw (← lu, ← lp)
    (read_either (leb n have) (record { answer = refl; reader = refl; taken = refl; buffer = lp })
    (read_either (ltb (have + k) n) (record { answer = refl; reader = refl; taken = refl; buffer = buffers })
    (record { answer = refl; reader = refl; taken = refl; buffer = buffers })))

judged_same : (limit : ℕ) (h u v p q : List ℕ) → length u ≡ length v → length p ≡ length q → SameRead (judged_of limit h u p) (judged_of limit h v q)
unfolding judged_of
judged_same limit h u v p q lu lp =
    let n : ℕ = length_field h in
    let bad : (s : R.Said) (f : MessageReader) → SameRead (s, f, 0, p) (s, f, 0, q) =
    λ s f. record { answer = refl; reader = refl; taken = refl; buffer = lp } in
    read_either (is_negative 4 n) (bad (R.refused 6) fresh)
    (read_either (ltb n 4) (bad (R.refused 6) fresh)
    (read_either (ltb limit (n - 4)) (bad (R.refused 7) shut) (payload_same (at_byte h 5 (n - 4)) u v false p q lu lp)))

header_same : (limit : ℕ) (r : MessageReader) (u v : List ℕ) (e : Bool) (p q : List ℕ) → length u ≡ length v → length p ≡ length q
    → take (5 - r.filled) u ≡ take (5 - r.filled) v → SameRead (header_of limit r u e p) (header_of limit r v e q)
unfolding header_of
header_same limit r u v e p q lu lp lacks =
    let k : ℕ = min (5 - r.filled) (length u) in
    let h : List ℕ = put r.header r.filled (take k u) in
    let f : take k u ≡ take k v = same_front u v (5 - r.filled) k (min-le_left (5 - r.filled) (length u)) lacks in
    let du : length (drop k u) ≡ length u - k = length-drop k u in
    let dv : length (drop k v) ≡ length v - k = length-drop k v in
    let j : SameRead (judged_of limit h (drop k u) p) (judged_of limit h (drop k v) q) =
    judged_same limit h (drop k u) (drop k v) p q (omega arith) lp in
    rw (← lu, ← f)
    (read_either (ltb (r.filled + k) 5) (record { answer = refl; reader = refl; taken = refl; buffer = lp })
    (record { answer = j.answer; reader = j.reader; taken = ap (λ (n : ℕ). k + n) j.taken; buffer = j.buffer }))

pub read_same : (setting : ℕ) (r : MessageReader) (u v : List ℕ) (e : Bool) (p q : List ℕ) → length u ≡ length v → length p ≡ length q
    → (r.refused ≡ false → take (5 - r.filled) u ≡ take (5 - r.filled) v) → SameRead (read_of setting r u e p) (read_of setting r v e q)
unfolding read_of
read_same setting r u v e p q lu lp lacks =
    let same : (s : R.Said) → SameRead (s, r, 0, p) (s, r, 0, q) = λ s. record { answer = refl; reader = refl; taken = refl; buffer = lp } in
    rw (← lp)
    (read_either (ltb (length p) (limit_of setting)) (same (R.refused 3))
    (by r.refused refl))
  where
    by : (b : Bool) → r.refused ≡ b
        → SameRead (pick b (R.refused 7, r, 0, p) (pick (ltb r.filled 5) (header_of (limit_of setting) r u e p) (payload_of r u e p)))
        (pick b (R.refused 7, r, 0, q) (pick (ltb r.filled 5) (header_of (limit_of setting) r v e q) (payload_of r v e q)))
    by true x = record { answer = refl; reader = refl; taken = refl; buffer = lp }
    by false x = read_either (ltb r.filled 5) (header_same (limit_of setting) r u v e p q lu lp (lacks x)) (payload_same r u v e p q lu lp)

-- ---- the cases of the table

-- no event, whatever the buffers
no_event : (e e' : E.Said) (p q : List ℕ) → e ≡ E.nothing → e ≡ e' → all_left_out (happened_of e p) ≡ all_left_out (happened_of e' q)
no_event e e' p q h k = rw (← k, h)

module _ (i : Input) (l m : Lent) (lu : length l.unread ≡ length m.unread) (lp : length l.payload ≡ length m.payload)
    (lo : length l.out ≡ length m.out) where
  abbrev K : Outcome → Outcome → Type 0
  K o o' = Same l.out m.out o o'

  -- two outcomes are the same and neither has an event
  record Q (o o' : Outcome) : Type 0 where
    same : K o o'
    quiet : o.event ≡ E.nothing

  either : (b : Bool) {x x' y y' : Outcome} → K x x' → K y y' → K (pick b x y) (pick b x' y')
  either true h k = h
  either false h k = k

  either_quiet : (b : Bool) {x x' y y' : Outcome} → Q x x' → Q y y' → Q (pick b x y) (pick b x' y')
  either_quiet true h k = h
  either_quiet false h k = k

  -- the event's bytes are the same in both buffers, but for data and content
  abbrev Shown : Event → Type 0
  Shown e = all_left_out (happened_of (E.said_by e) l.payload) ≡ all_left_out (happened_of (E.said_by e) m.payload)

  -- ---- the ends of a step

  -- a refusal or none, an event or none, and nothing written
  abbrev silent : ℕ → E.Said → Run → Lent → Outcome
  silent n e r x = record { run = r; refusal = n; taken = 0; event = e; written = 0; waited = none; payload = x.payload; out = x.out }

  silent_same : (n : ℕ) (e : E.Said) (r : Run) → all_left_out (happened_of e l.payload) ≡ all_left_out (happened_of e m.payload)
      → K (silent n e r l) (silent n e r m)
  silent_same n e r h =
      record {
        run = refl;
        refusal = refl;
        taken = refl;
        event = refl;
        count = refl;
        written = refl;
        waited = refl;
        output = λ j k. k;
        room = lo;
        buffer = lp;
        happened = h;
      }

  -- no refusal, an event or none, and a text of k bytes written
  abbrev wrote : List ℕ → ℕ → Option ℕ → E.Said → Run → Lent → Outcome
  wrote s k w e r x =
      record { run = r; refusal = 0; taken = 0; event = e; written = k; waited = w; payload = x.payload; out = put x.out 0 s }

  wrote_same : (s : List ℕ) (k : ℕ) (w : Option ℕ) (e : E.Said) (r : Run) → k ≡ length s
      → all_left_out (happened_of e l.payload) ≡ all_left_out (happened_of e m.payload) → K (wrote s k w e r l) (wrote s k w e r m)
  wrote_same s k w e r n h =
      record {
        run = refl;
        refusal = refl;
        taken = refl;
        event = refl;
        count = refl;
        written = front_over l.out s k n ∙ sym (front_over m.out s k n);
        waited = refl;
        output = λ j p. place_over l.out m.out s j p;
        room = same_length_over l.out m.out s s 0 lo refl;
        buffer = lp;
        happened = h;
      }

  handing_same : (e : Event) (r : Run) → Shown e → K (handing e r l) (handing e r m)
  handing_same e r h = silent_same 0 (E.said_by e) r h

  moved_same : (r : Run) → Q (moved r l) (moved r m)
  moved_same r = record { same = handing_same Nothing r refl; quiet = refl }

  refused_same : (n : ℕ) (r : Run) → Q (refused_with n r l) (refused_with n r m)
  refused_same n r = record { same = silent_same n E.nothing r refl; quiet = refl }

  done_same : (e : Event) (r : Run) → Shown e → K (done_with e r l) (done_with e r m)
  done_same e r h = wrote_same copy_done_message 5 none (E.said_by e) (with_state Ended r) (sym length_done) h

  status_same : (reply : Bool) (to : State) (r : Run) → Q (feedback_of reply to r i l) (feedback_of reply to r i m)
  unfolding feedback_of
  status_same reply to r =
      let s : List ℕ = status_update (cell_position (cell_in r)).0 i.client_time reply in
      let n : 39 ≡ length s = sym (length_update (cell_position (cell_in r)).0 i.client_time reply) in
      record { same = wrote_same s 39 (waited_by r) E.nothing (with_state to (confirmed r)) n refl; quiet = refl }

  having_same : {k k' : ℕ} {p q : List ℕ} (o o' : Outcome) → k ≡ k' → length p ≡ length q → Q o o' → K (having k p o) (having k' q o')
  having_same {k} {k'} {p} {q} o o' ek lb h =
      record {
        run = h.same.run;
        refusal = h.same.refusal;
        taken = ek;
        event = h.same.event;
        count = h.same.count;
        written = h.same.written;
        waited = h.same.waited;
        output = h.same.output;
        room = h.same.room;
        buffer = lb;
        happened = no_event o.event o'.event p q h.quiet h.same.event;
      }

  -- a read, and what a case makes of its answer and of the run with the reader that it leaves
  after_read : (f : R.Said → Run → Lent → Outcome) → ((a : R.Said) (r : Run) → Q (f a r l) (f a r m)) → (r : Run) (x y : Result) → SameRead x y
      → K (having x.2 x.3 (f x.0 (with_reader x.1 r) l)) (having y.2 y.3 (f y.0 (with_reader y.1 r) m))
  after_read f h r x y s = having_same _ _ s.taken s.buffer (read_by_lem x.0 y.0 x.1 y.1 s.answer s.reader)
    where
      read_by_lem : (a b : R.Said) (c d : MessageReader) → a ≡ b → c ≡ d → Q (f a (with_reader c r) l) (f b (with_reader d r) m)
      read_by_lem a b c d ea ec = rw (← ea, ← ec) (h a (with_reader c r))

  -- ---- each state

  opening_by_lem : (a : R.Said) (r : Run) → Q (opening_by a r l) (opening_by a r m)
  opening_by_lem R.more r = moved_same _
  opening_by_lem (R.whole tag n) r =
      either_quiet (is_copy_both_response tag) (moved_same _) (either_quiet (is_error tag) (refused_same _ _) (moved_same _))
  opening_by_lem (R.refused n) r = refused_same _ _

  reading_by_lem : (a : R.Said) (r : Run) → Q (reading_by a r l) (reading_by a r m)
  reading_by_lem R.more r = moved_same _
  reading_by_lem (R.whole tag n) r = moved_same _
  reading_by_lem (R.refused n) r = refused_same _ _

  idle_same : (r : Run) → Q (idle_of r i l) (idle_of r i m)
  idle_same r =
      either_quiet (leb r.settings.idle_wakeup_interval (since_of r.clock.last r.clock.wait_began)) (status_same false Turn r)
      (moved_same _)

  waiting_by_lem : (a : R.Said) (r : Run) → Q (waiting_by a r i l) (waiting_by a r i m)
  waiting_by_lem R.more r = idle_same r
  waiting_by_lem (R.whole tag n) r = moved_same _
  waiting_by_lem (R.refused n) r = refused_same _ _

  turn_same : (r : Run) → K (turn_of r i l) (turn_of r i m)
  unfolding turn_of
  turn_same r = either (status_due r) (status_same false Drain (with_drained 0 r)).same (moved_same _).same

  drain_same : (r : Run) → K (drain_of r i l) (drain_of r i m)
  unfolding drain_of
  drain_same r =
      rw (← lu)
      (either (both (ltb r.drained 256) (leb 5 (length l.unread))) (moved_same _).same
      (either (eqb r.drained 0) (moved_same _).same
      (either i.stop (done_same Nothing r refl) (moved_same _).same)))

  -- what a message's data give
  boundary_by_lem : (a : B.Said) (start end : ℕ) (time : ℤ) (from len : ℕ) (r : Run)
      → Q (boundary_by a start end time from len r l) (boundary_by a start end time from len r m)
  boundary_by_lem (B.begin final t xid) start end time from len r = moved_same _
  boundary_by_lem (B.commit position e t) start end time from len r = moved_same _
  boundary_by_lem (B.message flag position pf pl cf cl) start end time from len r = moved_same _
  boundary_by_lem B.no_boundary start end time from len r = moved_same _
  boundary_by_lem (B.refused n) start end time from len r = refused_same _ _

  keep_alive : (end : ℕ) (time : ℤ) (reply : Bool) (r : Run) → K (keep_alive_by end time reply r i l) (keep_alive_by end time reply r i m)
  keep_alive end time reply r =
      let offered : Run = offers (KeepAlive (lsn end) time reply) false (lsn 0) r in
      either reply (status_same true Offering (with_metrics (with_reply offered.metrics) offered)).same (moved_same _).same

  -- a CopyData of two payloads that say the same and have the same boundary
  copy_data_by_lem : (a : C.Said) (r : Run) → boundary_in l.payload a ≡ boundary_in m.payload a → K (copy_data_by a r i l) (copy_data_by a r i m)
  copy_data_by_lem (C.k end time reply) r h = keep_alive end time reply (with_metrics (with_end r.metrics (lsn end)) r)
  copy_data_by_lem (C.w start end time from len) r h =
      rw (← h) (boundary_by_lem (boundary_of (at l.payload from len)) start end time from len (with_metrics (with_end r.metrics (lsn end)) r)).same
  copy_data_by_lem (C.refused n) r h = (refused_same _ _).same

  -- the boundary in the front of a buffer is the one in the buffer
  in_front : (n : ℕ) (p : List ℕ) (a : C.Said) → copy_data_of (take n p) ≡ a → boundary_in (take n p) a ≡ boundary_in p a
  in_front n p (C.k end time reply) e = refl
  in_front n p (C.w start end time from len) e =
      let v : from + len ≤ length (take n p) = data_within (take n p) start end time from len e in
      let k : length (take n p) ≡ min n (length p) = length-take n p in
      ap boundary_of (part_of_front n from len p (omega arith))
  in_front n p (C.refused k) e = refl

  copied_same : (n : ℕ) (r : Run) → view_of (take n l.payload) ≡ view_of (take n m.payload)
      → K (copy_data_by (copy_data_of (take n l.payload)) r i l) (copy_data_by (copy_data_of (take n m.payload)) r i m)
  copied_same n r h =
      let p : List ℕ = take n l.payload in
      let q : List ℕ = take n m.payload in
      let a : C.Said = copy_data_of p in
      let said : copy_data_of q ≡ a = sym (ap (λ (v : View). v.said) h) in
      let b : boundary_in p a ≡ boundary_in q a = ap (λ (v : View). v.boundary) h ∙ ap (boundary_in q) said in
      let c : boundary_in l.payload a ≡ boundary_in m.payload a = sym (in_front n l.payload a refl) ∙ (b ∙ in_front n m.payload a said) in
      rw said (copy_data_by_lem a r c)

  either_given : (b : Bool) {x x' y y' : Outcome} → (b ≡ true → K x x') → K y y' → K (pick b x y) (pick b x' y')
  either_given true h k = h refl
  either_given false h k = k

  handling_same : (r : Run) → AlikePayload r.whole.tag (take r.whole.len l.payload) (take r.whole.len m.payload)
      → K (handling_of r i l) (handling_of r i m)
  unfolding handling_of
  handling_same r h =
      either (is_error r.whole.tag) (refused_same _ _).same
      (either (is_copy_done r.whole.tag) (done_same Nothing r refl)
      (either_given (is_copy_data r.whole.tag) (λ c. copied_same r.whole.len r (h.copied c)) (moved_same _).same))

  -- ---- an offered event

  next_same : (e : Event) (r : Run) → Shown e → K (next_event e r l) (next_event e r m)
  next_same e r h = either (is_stopped_at r.offer.event) (done_same e r h) (by r.offer.stops)
    where
      by : (b : Bool) → K (handing e (pick b (offers (StoppedAt r.offer.reached) false (lsn 0) r) (back r)) l)
          (handing e (pick b (offers (StoppedAt r.offer.reached) false (lsn 0) r) (back r)) m)
      by b = handing_same e _ h

  stalled_by_lem : (q : Queue) (r : Run) → Shown r.offer.event → K (stalled_by q r i l) (stalled_by q r i m)
  stalled_by_lem Free r h = next_same r.offer.event (with_metrics (with_event (stall_ended r).metrics) r) h
  stalled_by_lem Closed r h = next_same Nothing (stall_ended r) refl
  stalled_by_lem Full r h = either (interval_passed r) (status_same false Offering r).same (moved_same _).same

  stalled_same : (r : Run) → Shown r.offer.event → K (stalled_of r i l) (stalled_of r i m)
  unfolding stalled_of
  stalled_same r h = either i.stop (done_same Nothing r refl) (stalled_by_lem i.queue r h)

  first_by : (q : Queue) (r : Run) → Shown r.offer.event → K (first_offer_by q r i l) (first_offer_by q r i m)
  first_by Free r h = next_same r.offer.event (with_metrics (with_event r.metrics) r) h
  first_by Closed r h = next_same Nothing r refl
  first_by Full r h = stalled_same (stalls r) h

  offering_same : (r : Run) → Shown r.offer.event → K (offering_of r i l) (offering_of r i m)
  unfolding offering_of
  offering_same r h = either r.offer.stalled (stalled_same r h) (first_by i.queue r h)

  -- ---- the step

  -- what a step that is not refused with 2 or 3 looks at, by the run's state
  pub record Ready (r : Run) : Type 0 where
    pub lacking : r.reader.refused ≡ false → take (5 - r.reader.filled) l.unread ≡ take (5 - r.reader.filled) m.unread
    pub handled : r.state ≡ Handling → AlikePayload r.whole.tag (take r.whole.len l.payload) (take r.whole.len m.payload)
    pub offered : r.state ≡ Offering → Shown r.offer.event

  reads : (r : Run) → Ready r → SameRead (read_by r i l) (read_by r i m)
  reads r w = read_same r.settings.max_message_size r.reader l.unread m.unread i.ended l.payload m.payload lu lp w.lacking

  waiting_same : (r : Run) → Ready r → K (waiting_of r i l) (waiting_of r i m)
  unfolding waiting_of
  waiting_same r w =
      rw (← lu)
      (either i.stop (done_same Nothing r refl)
      (either (both r.pending (interval_passed r)) (status_same false Turn r).same
      (either (unless r.pending (cell_signal (cell_in r))) (moved_same _).same
      (either (is_readable i l) (after_read (λ a s k. waiting_by a s i k) waiting_by_lem r (read_by r i l) (read_by r i m) (reads r w))
      (idle_same r).same))))

  -- in a state, of a run that is in it
  state_same : (s : State) (r : Run) → r.state ≡ s → Ready r → K (step_in s r i l) (step_in s r i m)
  unfolding step_in opening_of reading_of
  state_same Opening r e w = after_read opening_by opening_by_lem r (read_by r i l) (read_by r i m) (reads r w)
  state_same Turn r e w = turn_same r
  state_same Drain r e w = drain_same r
  state_same Reading r e w = after_read reading_by reading_by_lem r (read_by r i l) (read_by r i m) (reads r w)
  state_same Waiting r e w = waiting_same r w
  state_same Handling r e w = handling_same r (w.handled e)
  state_same Offering r e w = offering_same r (w.offered e)
  state_same Ended r e w = (refused_same 2 r).same

  pub step_same : (r : Run) → (is_ended r.state ≡ false → ltb (length l.payload) (limit_of r.settings.max_message_size) ≡ false → Ready r)
      → K (step_of r i l) (step_of r i m)
  unfolding step_of
  step_same r w =
      rw (← lp, ← lo)
      (by_test (is_ended r.state)
      (λ a. rw a (refused_same 2 r).same)
      (λ a.
      by_test (ltb (length l.payload) (limit_of r.settings.max_message_size))
      (λ b. rw (a, b) (refused_same 3 r).same)
      (λ b.
      rw (a, b)
      (either (ltb (length l.out) 39) (refused_same 4 r).same
      (either (bad_moment r i.moment) (refused_same 5 r).same
      (state_same r.state (accepted i.moment r) refl (w' (w a b))))))))
    where
      w' : Ready r → Ready (accepted i.moment r)
      w' y = record { lacking = y.lacking; handled = y.handled; offered = y.offered }
