-- A step of the same run with two payload buffers that agree in the held front: the step's definition, state by state. A step that reads leaves
-- buffers that agree in what was written; any other leaves the buffers, and the run holds no more of them than before.
use Prim.Native.Nat.{ℕ, ◌+◌, ◌-◌, ◌≤◌, ◌<◌, max, min}
use native.Mathlib.Nat.{min-le_left}
use native.Mathlib.Omega.{arith}
use mathlib.Core.Path.{◌≡◌, refl, sym, subst}
use mathlib.Core.Bool.{Bool, true, false}
use mathlib.Core.List.{List}
use lib.ListN.{length, take, drop, length-take}
use lib.IntN.{ℤ}
use lib.Dec.{ltb, leb, eqb}
use borrow.Author.Tests.{leb-true, leb-false}
use Rattle.wire.specs.Bytes.{pick, at}
use Rattle.wire.proofs.Laws.{by_test}
use Rattle.frames.specs.Tag.{is_error, is_copy_both_response, is_copy_data}
use Rattle.framing.specs.declared.MessageReader.{MessageReader}
use Rattle.framing.specs.Read.{Result, limit_of}
use Rattle.framing.specs.Read as R
use Rattle.lsn.specs.declared.Lsn.{Lsn}
use Rattle.metrics.specs.Metrics.{more, with_event, with_reply, with_end}
use Rattle.moment.specs.Moment.{since_of}
use Rattle.pgoutput.specs.Boundary.{boundary_of}
use Rattle.pgoutput.specs.Boundary as B
use Rattle.pgoutput.proofs.LayoutMessage.{parts_within}
use Rattle.replication.specs.CopyData.{copy_data_of}
use Rattle.replication.specs.CopyData as C
use Rattle.replication.proofs.LayoutXLogData.{data_within}
use Rattle.progress.specs.Progress.{cell_signal}
use Rattle.worker.specs.declared.Event.{Event}
use Rattle.worker.specs.declared.Event.TheVariants.{Nothing, KeepAlive, Begin, Commit, Message, XLogData, StoppedAt}
use Rattle.worker.specs.declared.Input.{Input}
use Rattle.worker.specs.declared.Queue.{Queue}
use Rattle.worker.specs.declared.Queue.TheVariants.{Free, Full, Closed}
use Rattle.worker.specs.declared.Run.{Run}
use Rattle.worker.specs.declared.State.{State}
use Rattle.worker.specs.declared.State.TheVariants.{Opening, Turn, Drain, Reading, Waiting, Handling, Offering, Ended}
use Rattle.worker.specs.Answer.{lent}
use Rattle.worker.specs.Events.{data_gives}
use Rattle.worker.specs.Events as E
use Rattle.worker.specs.Run.{lsn, cell_in, whole_of, with_reader, with_drained, with_whole, with_metrics, accepted, with_state}
use Rattle.worker.specs.Tests.{both, unless}
use Rattle.worker.specs.Step.{Lent, Outcome, back, bad_moment, confirmed, copy_data_by, done_with, drain_of, ended_with, feedback_of, first_offer_by, handing}
use Rattle.worker.specs.Step.{given_of, handling_of, having, interval_passed, is_ended, is_readable, is_stopped_at, keep_alive_by, moved, next_event}
use Rattle.worker.specs.Step.{offering_of, offers, opening_by, opening_of, reaches, read_by, reading_by, reading_of, refused_with, stall_ended}
use Rattle.worker.specs.Step.{stalled_by, stalled_of, stalls}
use Rattle.worker.specs.Step.{status_due, step_in, step_of, to_handle, turn_of, waiting_by, waiting_of, waits}
use Rattle.worker.specs.Streaming.{is_copy_done}
use Rattle.thm_held_front.specs.HeldFront.{parts_end, error_held, whole_held, held, parts, SameOutcome, StepSeesHeld, HeldCases}
use Rattle.thm_held_front.proofs.ReadSame.{Agree, shorter, same_part, whole_length, SameRead, read_same}

-- ---- counts of held bytes

agree_max : (p q : List ℕ) (a b : ℕ) → Agree a p q → Agree b p q → Agree (max a b) p q
agree_max p q a b x y =
    by_test (leb a b)
    (λ c. let l : a ≤ b = leb-true _ _ c in let e : max a b ≡ b = omega arith in rw e y)
    (λ c. let l : b < a = leb-false _ _ c in let e : max a b ≡ a = omega arith in rw e x)

error_within : (r : Run) (h : ℕ) → r.whole.len ≤ h → error_held r ≤ h
error_within r h l = by (is_error r.whole.tag)
  where
    by : (b : Bool) → pick b r.whole.len 0 ≤ h
    by true = l
    by false = omega arith

-- of a run whose state is known
in_state : (p q : List ℕ) (x : State) (r : Run) → r.state ≡ x → Agree (max (r.reader.filled - 5) (whole_held x r)) p q → Agree (held r) p q
in_state p q x r e a = subst (λ (y : State). Agree (max (r.reader.filled - 5) (whole_held y r)) p q) (sym e) a

-- the bytes that an event names within a front
pub named_same : (p q : List ℕ) (h : ℕ) → Agree h p q → (e : Event) → parts_end e ≤ h → parts (E.said_by e) p ≡ parts (E.said_by e) q
named_same p q h front Nothing k = refl
named_same p q h front (KeepAlive end time reply) k = refl
named_same p q h front (Begin final time xid) k = refl
named_same p q h front (Commit position end time) k = refl
named_same p q h front (Message flag position pf pl cf cl) k =
    let a : at p pf pl ≡ at q pf pl = same_part p q h pf pl (omega arith) front in
    let b : at p cf cl ≡ at q cf cl = same_part p q h cf cl (omega arith) front in
    rw (a, b) refl
named_same p q h front (XLogData start end time from len) k =
    let a : at p from len ≡ at q from len = same_part p q h from len k front in rw a refl
named_same p q h front (StoppedAt reached) k = refl

-- the event that data give names bytes within them
abbrev pub GivenWithin : ℕ → E.Given → Type 0
GivenWithin h (E.given e reached) = parts_end e ≤ h
GivenWithin h (E.refused n) = Unit {0}

pub given_within : (b : B.Said) (s : List ℕ) (start end : ℕ) (time : ℤ) (from len h : ℕ) → boundary_of s ≡ b → length s ≤ len → from + len ≤ h
    → GivenWithin h (data_gives b start end time from len)
given_within (B.begin final t xid) s start end time from len h c v w = omega arith
given_within (B.commit position e t) s start end time from len h c v w = omega arith
given_within (B.message flag position pf pl cf cl) s start end time from len h c v w =
    let x = parts_within s flag position pf pl cf cl c in
    let x0 : pf + pl ≤ length s = x.0 in
    let x1 : cf + cl ≤ length s = x.1 in
    omega arith
given_within B.no_boundary s start end time from len h c v w = w
given_within (B.refused n) s start end time from len h c v w = tt

-- ---- the ends of a step, with the same unread bytes and output

module _ (i : Input) (u out p q : List ℕ) (size : length p ≡ length q) where
  abbrev l : Lent
  l = lent u p out

  abbrev m : Lent
  m = lent u q out

  either : (b : Bool) {x x' y y' : Outcome} → SameOutcome x x' → SameOutcome y y' → SameOutcome (pick b x y) (pick b x' y')
  either true h k = h
  either false h k = k

  abbrev Holds : Run → Type 0
  Holds r = Agree (held r) p q

  handing_same : (e : Event) (r : Run) → parts (E.said_by e) p ≡ parts (E.said_by e) q → Holds r → SameOutcome (handing e r l) (handing e r m)
  handing_same e r b h =
      record {
        run = refl;
        refusal = refl;
        taken = refl;
        event = refl;
        written = refl;
        waited = refl;
        out = refl;
        bytes = b;
        held = record { size = size; front = h };
      }

  moved_same : (r : Run) → Holds r → SameOutcome (moved r l) (moved r m)
  moved_same r h = handing_same Nothing r refl h

  refused_same : (n : ℕ) (r : Run) → Holds r → SameOutcome (refused_with n r l) (refused_with n r m)
  refused_same n r h =
      record {
        run = refl;
        refusal = refl;
        taken = refl;
        event = refl;
        written = refl;
        waited = refl;
        out = refl;
        bytes = refl;
        held = record { size = size; front = h };
      }

  done_same : (e : Event) (r : Run) → parts (E.said_by e) p ≡ parts (E.said_by e) q → Holds (with_state Ended r)
      → SameOutcome (done_with e r l) (done_with e r m)
  done_same e r b h =
      record {
        run = refl;
        refusal = refl;
        taken = refl;
        event = refl;
        written = refl;
        waited = refl;
        out = refl;
        bytes = b;
        held = record { size = size; front = h };
      }

  status_same : (reply : Bool) (to : State) (r : Run) → Holds (with_state to (confirmed r))
      → SameOutcome (feedback_of reply to r i l) (feedback_of reply to r i m)
  unfolding feedback_of
  status_same reply to r h =
      record {
        run = refl;
        refusal = refl;
        taken = refl;
        event = refl;
        written = refl;
        waited = refl;
        out = refl;
        bytes = refl;
        held = record { size = size; front = h };
      }

  -- ---- states that leave the buffer, of which the run holds at most h bytes

  module _ (h : ℕ) (front : Agree h p q) where
    -- two counts within h
    within : (a b : ℕ) → a ≤ h → b ≤ h → Agree (max a b) p q
    within a b x y = shorter p q (max a b) h (omega arith) front

    named : (e : Event) → parts_end e ≤ h → parts (E.said_by e) p ≡ parts (E.said_by e) q
    named e k = named_same p q h front e k

    turn_same : (r : Run) → r.reader.filled - 5 ≤ h → error_held r ≤ h → SameOutcome (turn_of r i l) (turn_of r i m)
    unfolding turn_of
    turn_same r f e =
        either (status_due r) (status_same false Drain (with_drained 0 r) (within _ _ f e))
        (moved_same (with_state Drain (with_drained 0 r)) (within _ _ f e))

    drain_same : (r : Run) → r.reader.filled - 5 ≤ h → error_held r ≤ h → SameOutcome (drain_of r i l) (drain_of r i m)
    unfolding drain_of
    drain_same r f e =
        either (both (ltb r.drained 256) (leb 5 (length u))) (moved_same (with_state Reading r) (within _ _ f e))
        (either (eqb r.drained 0) (moved_same (waits r) (within _ _ f e))
        (either i.stop (done_same Nothing r refl (within _ _ f e)) (moved_same (with_state Turn r) (within _ _ f e))))

    back_holds : (r : Run) → r.reader.filled - 5 ≤ h → r.whole.len ≤ h → Holds (back r)
    back_holds r f w = by r.whole.in_wait
      where
        by : (b : Bool) → Holds (with_state (pick b Turn Drain) r)
        by true = within _ _ f (error_within r h w)
        by false = within _ _ f (error_within r h w)

    offered : (e : Event) (stops : Bool) (reached : Lsn) (r : Run) → r.reader.filled - 5 ≤ h → r.whole.len ≤ h → parts_end e ≤ h
        → Holds (offers e stops reached r)
    offered e stops reached r f w k = within _ _ f (omega arith)

    -- ---- Handling

    gives_same : (g : E.Given) (r : Run) → GivenWithin h g → r.reader.filled - 5 ≤ h → r.whole.len ≤ h
        → SameOutcome (given_of g r l) (given_of g r m)
    gives_same (E.given e reached) r k f w = moved_same _ (offered e (reaches r reached) reached r f w k)
    gives_same (E.refused n) r k f w = refused_same n (with_state Ended r) (within _ _ f (error_within r h w))

    keep_alive : (end : ℕ) (time : ℤ) (reply : Bool) (r : Run) → r.reader.filled - 5 ≤ h → r.whole.len ≤ h
        → SameOutcome (keep_alive_by end time reply r i l) (keep_alive_by end time reply r i m)
    keep_alive end time reply r f w =
        let o : Run = offers (KeepAlive (lsn end) time reply) false (lsn 0) r in
        let k : Agree (max (r.reader.filled - 5) (max r.whole.len 0)) p q = within _ _ f (omega arith) in
        either reply (status_same true Offering (with_metrics (with_reply o.metrics) o) k) (moved_same o k)

    -- of the same payload, whose data lie within it
    copy_data : (a : C.Said) (n : ℕ) (r : Run) → copy_data_of (take n p) ≡ a → n ≤ h → r.reader.filled - 5 ≤ h → r.whole.len ≤ h
        → SameOutcome (copy_data_by a r i l) (copy_data_by a r i m)
    copy_data (C.k end time reply) n r c v f w = keep_alive end time reply (with_metrics (with_end r.metrics (lsn end)) r) f w
    copy_data (C.w start end time from len) n r c v f w =
        let x : from + len ≤ length (take n p) = data_within (take n p) start end time from len c in
        let y : length (take n p) ≡ min n (length p) = length-take n p in
        let z : from + len ≤ h = omega arith in
        let e : at p from len ≡ at q from len = same_part p q h from len z front in
        let g : length (at p from len) ≤ len = rw length-take (min-le_left len (length (drop from p))) in
        rw (← e)
        (gives_same (data_gives (boundary_of (at p from len)) start end time from len) (with_metrics (with_end r.metrics (lsn end)) r)
        (given_within (boundary_of (at p from len)) (at p from len) start end time from len h refl g z) f w)
    copy_data (C.refused n) k r c v f w = refused_same n (with_state Ended r) (within _ _ f (error_within r h w))

    handling_same : (r : Run) → r.reader.filled - 5 ≤ h → r.whole.len ≤ h → SameOutcome (handling_of r i l) (handling_of r i m)
    unfolding handling_of
    handling_same r f w =
        let n : ℕ = r.whole.len in
        let e : take n p ≡ take n q = shorter p q n h w front in
        let k : Holds (with_state Ended r) = within _ _ f (error_within r h w) in
        either (is_error r.whole.tag) (refused_same 19 (with_state Ended r) k)
        (either (is_copy_done r.whole.tag) (done_same Nothing r refl k)
        (either (is_copy_data r.whole.tag) (rw (← e) (copy_data (copy_data_of (take n p)) n r refl w f w)) (moved_same (back r) (back_holds r f w))))

    -- ---- Offering

    next_same : (e : Event) (r : Run) → parts_end e ≤ h → r.reader.filled - 5 ≤ h → r.whole.len ≤ h
        → SameOutcome (next_event e r l) (next_event e r m)
    next_same e r k f w =
        either (is_stopped_at r.offer.event) (done_same e r (named e k) (within _ _ f (error_within r h w))) (by r.offer.stops)
      where
        by : (b : Bool) → SameOutcome (handing e (pick b (offers (StoppedAt r.offer.reached) false (lsn 0) r) (back r)) l)
            (handing e (pick b (offers (StoppedAt r.offer.reached) false (lsn 0) r) (back r)) m)
        by true = handing_same e _ (named e k) (offered (StoppedAt r.offer.reached) false (lsn 0) r f w (omega arith))
        by false = handing_same e (back r) (named e k) (back_holds r f w)

    -- what the run holds in Offering
    record Offers (r : Run) : Type 0 where
      is_in : r.state ≡ Offering
      reads : r.reader.filled - 5 ≤ h
      whole : r.whole.len ≤ h
      names : parts_end r.offer.event ≤ h

    offering_holds : (r : Run) → Offers r → Holds r
    offering_holds r o = in_state p q Offering r o.is_in (within _ _ o.reads (let a = o.whole in let b = o.names in omega arith))

    stalled_by_lem : (c : Queue) (r : Run) → Offers r → SameOutcome (stalled_by c r i l) (stalled_by c r i m)
    stalled_by_lem Free r o =
        next_same r.offer.event (with_metrics (with_event (stall_ended r).metrics) r) o.names o.reads o.whole
    stalled_by_lem Closed r o = next_same Nothing (stall_ended r) (omega arith) o.reads o.whole
    stalled_by_lem Full r o =
        either (interval_passed r)
        (status_same false Offering r (within _ _ o.reads (let a = o.whole in let b = o.names in omega arith)))
        (moved_same r (offering_holds r o))

    stalled_same : (r : Run) → Offers r → SameOutcome (stalled_of r i l) (stalled_of r i m)
    unfolding stalled_of
    stalled_same r o = either i.stop (done_same Nothing r refl (within _ _ o.reads (error_within r h o.whole))) (stalled_by_lem i.queue r o)

    first_by : (c : Queue) (r : Run) → Offers r → SameOutcome (first_offer_by c r i l) (first_offer_by c r i m)
    first_by Free r o = next_same r.offer.event (with_metrics (with_event r.metrics) r) o.names o.reads o.whole
    first_by Closed r o = next_same Nothing r (omega arith) o.reads o.whole
    first_by Full r o = stalled_same (stalls r) (record { is_in = o.is_in; reads = o.reads; whole = o.whole; names = o.names })

    offering_same : (r : Run) → Offers r → SameOutcome (offering_of r i l) (offering_of r i m)
    unfolding offering_of
    offering_same r o = either r.offer.stalled (stalled_same r o) (first_by i.queue r o)

  -- ---- states that read: the buffers after the read, and what they agree in

  module _ (k : ℕ) (b c : List ℕ) (same : length b ≡ length c) where
    abbrev After : Outcome → Outcome → Type 0
    After o o' = SameOutcome (having k b o) (having k c o')

    either_read : (t : Bool) (f g : Lent → Outcome) → After (f l) (f m) → After (g l) (g m) → After (pick t (f l) (g l)) (pick t (f m) (g m))
    either_read true f g x y = x
    either_read false f g x y = y

    quiet_read : (n : ℕ) (r : Run) → Agree (held r) b c → After (refused_with n r l) (refused_with n r m)
    quiet_read n r h =
        record {
          run = refl;
          refusal = refl;
          taken = refl;
          event = refl;
          written = refl;
          waited = refl;
          out = refl;
          bytes = refl;
          held = record { size = same; front = h };
        }

    status_read : (reply : Bool) (to : State) (r : Run) → Agree (held (with_state to (confirmed r))) b c
        → After (feedback_of reply to r i l) (feedback_of reply to r i m)
    unfolding feedback_of
    status_read reply to r h =
        record {
          run = refl;
          refusal = refl;
          taken = refl;
          event = refl;
          written = refl;
          waited = refl;
          out = refl;
          bytes = refl;
          held = record { size = same; front = h };
        }

    -- what the run holds after a read that answers so
    record Read (a : R.Said) (r : Run) : Type 0 where
      filled : Agree (r.reader.filled - 5) b c
      whole : Agree (whole_length a) b c
      shown : Agree (error_held r) b c

    -- in a state in which the run shows no whole message, and in Handling
    shows : (a : R.Said) (r : Run) → Read a r → Agree (max (r.reader.filled - 5) (error_held r)) b c
    shows a r h = agree_max b c (r.reader.filled - 5) (error_held r) h.filled h.shown

    handles : (tag n : ℕ) (r : Run) → Read (R.whole tag n) r → Agree (max (r.reader.filled - 5) n) b c
    handles tag n r h = agree_max b c (r.reader.filled - 5) n h.filled h.whole

    opening_by_lem : (a : R.Said) (r : Run) → r.state ≡ Opening → Read a r → After (opening_by a r l) (opening_by a r m)
    opening_by_lem R.more r e h = quiet_read 0 r (in_state b c Opening r e (shows _ r h))
    opening_by_lem (R.whole tag n) r e h =
        either_read (is_copy_both_response tag) (λ z. moved (with_state Turn r) z)
        (λ z. pick (is_error tag) (ended_with 19 (with_whole (whole_of tag n false) r) z) (moved r z))
        (quiet_read 0 (with_state Turn r) (shows _ r h))
        (either_read (is_error tag) (λ z. ended_with 19 (with_whole (whole_of tag n false) r) z) (λ z. moved r z)
        (quiet_read 19 (with_state Ended (with_whole (whole_of tag n false) r))
        (agree_max b c (r.reader.filled - 5) (pick (is_error tag) n 0) h.filled (by (is_error tag))))
        (quiet_read 0 r (in_state b c Opening r e (shows _ r h))))
      where
        by : (t : Bool) → Agree (pick t n 0) b c
        by true = h.whole
        by false = refl
    opening_by_lem (R.refused n) r e h = quiet_read n (with_state Ended r) (shows _ r h)

    reading_by_lem : (a : R.Said) (r : Run) → r.state ≡ Reading → Read a r → After (reading_by a r l) (reading_by a r m)
    reading_by_lem R.more r e h = quiet_read 0 r (in_state b c Reading r e (shows _ r h))
    reading_by_lem (R.whole tag n) r e h =
        quiet_read 0 (to_handle tag n false (with_drained (more r.drained 1) r)) (handles tag n r h)
    reading_by_lem (R.refused n) r e h = quiet_read n (with_state Ended r) (shows _ r h)

    waiting_by_lem : (a : R.Said) (r : Run) → r.state ≡ Waiting → Read a r → After (waiting_by a r i l) (waiting_by a r i m)
    waiting_by_lem R.more r e h =
        either_read (leb r.settings.idle_wakeup_interval (since_of r.clock.last r.clock.wait_began))
        (λ z. feedback_of false Turn r i z) (λ z. moved r z)
        (status_read false Turn r (shows _ r h))
        (quiet_read 0 r (in_state b c Waiting r e (shows _ r h)))
    waiting_by_lem (R.whole tag n) r e h = quiet_read 0 (to_handle tag n true r) (handles tag n r h)
    waiting_by_lem (R.refused n) r e h = quiet_read n (with_state Ended r) (shows _ r h)

  -- a read, and what a state makes of its answer
  after_read : (x : State) (f : R.Said → Run → Lent → Outcome)
      → ((k : ℕ) (b c : List ℕ) (same : length b ≡ length c) (a : R.Said) (s : Run) → s.state ≡ x → Read k b c same a s
      → SameOutcome (having k b (f a s l)) (having k c (f a s m)))
      → (r : Run) → r.state ≡ x → Agree (r.reader.filled - 5) p q → Agree (error_held r) p q
      → let y : Result = read_by r i l in
      let z : Result = read_by r i m in
      SameOutcome (having y.2 y.3 (f y.0 (with_reader y.1 r) l)) (having z.2 z.3 (f z.0 (with_reader z.1 r) m))
  after_read x f g r e a shown =
      let y : Result = read_by r i l in
      let z : Result = read_by r i m in
      let s : SameRead p q size y z = read_same p q size r.settings.max_message_size r.reader u i.ended a in
      by y.0 z.0 y.1 z.1 y.2 z.2 s.answer s.reader s.taken
      (g y.2 y.3 z.3 s.same_size y.0 (with_reader y.1 r) e
      (record { filled = s.filled; whole = s.whole; shown = s.kept (error_held r) shown }))
    where
      by : (a a' : R.Said) (c c' : MessageReader) (k k' : ℕ) → a ≡ a' → c ≡ c' → k ≡ k' → {b b' : List ℕ}
          → SameOutcome (having k b (f a (with_reader c r) l)) (having k b' (f a (with_reader c r) m))
          → SameOutcome (having k b (f a (with_reader c r) l)) (having k' b' (f a' (with_reader c' r) m))
      by a a' c c' k k' ea ec ek o = rw (← ea, ← ec, ← ek) o

  -- ---- the step

  module _ (r : Run) (h : ℕ) (front : Agree h p q) (filled : r.reader.filled - 5 ≤ h) where
    read_front : Agree (r.reader.filled - 5) p q
    read_front = shorter p q (r.reader.filled - 5) h filled front

    waiting_same : r.state ≡ Waiting → error_held r ≤ h → SameOutcome (waiting_of r i l) (waiting_of r i m)
    unfolding waiting_of
    waiting_same e w =
        let k : Agree (max (r.reader.filled - 5) (error_held r)) p q = within h front _ _ filled w in
        either i.stop (done_same Nothing r refl k)
        (either (both r.pending (interval_passed r)) (status_same false Turn r k)
        (either (unless r.pending (cell_signal (cell_in r))) (moved_same (with_state Turn r) k)
        (either (is_readable i l)
        (after_read Waiting (λ a s x. waiting_by a s i x) waiting_by_lem r e read_front (shorter p q (error_held r) h w front))
        (either (leb r.settings.idle_wakeup_interval (since_of r.clock.last r.clock.wait_began)) (status_same false Turn r k)
        (moved_same r (in_state p q Waiting r e k))))))

    -- in a state, of a run that is in it
    state_same : (s : State) → r.state ≡ s → whole_held s r ≤ h → SameOutcome (step_in s r i l) (step_in s r i m)
    unfolding step_in opening_of reading_of
    state_same Opening e w = after_read Opening opening_by opening_by_lem r e read_front (shorter p q (error_held r) h w front)
    state_same Turn e w = turn_same h front r filled w
    state_same Drain e w = drain_same h front r filled w
    state_same Reading e w = after_read Reading reading_by reading_by_lem r e read_front (shorter p q (error_held r) h w front)
    state_same Waiting e w = waiting_same e w
    state_same Handling e w = handling_same h front r filled w
    state_same Offering e w =
        offering_same h front r (record { is_in = e; reads = filled; whole = omega arith; names = omega arith })
    state_same Ended e w = refused_same 2 r (in_state p q Ended r e (within h front _ _ filled w))

pub step_sees_held : StepSeesHeld
unfolding step_of
step_sees_held r i u p q out s =
    let size : length p ≡ length q = s.size in
    let front : Agree (held r) p q = s.front in
    let refused : (n : ℕ) → SameOutcome (refused_with n r (lent u p out)) (refused_with n r (lent u q out)) =
    λ n. refused_same i u out p q size n r front in
    let f : r.reader.filled - 5 ≤ held r = omega arith in
    let w : whole_held r.state r ≤ held r = omega arith in
    rw (← size)
    (either i u out p q size (is_ended r.state) (refused 2)
    (either i u out p q size (ltb (length p) (limit_of r.settings.max_message_size)) (refused 3)
    (either i u out p q size (ltb (length out) 39) (refused 4)
    (either i u out p q size (bad_moment r i.moment) (refused 5)
    (by size (held r) front f r.state refl w)))))
  where
    by : (size : length p ≡ length q) (h : ℕ) → Agree h p q → r.reader.filled - 5 ≤ h → (x : State) → r.state ≡ x → whole_held x r ≤ h
        → SameOutcome (step_in x (accepted i.moment r) i (lent u p out)) (step_in x (accepted i.moment r) i (lent u q out))
    by size h front f x e w = state_same i u out p q size (accepted i.moment r) h front f x e (same x w)
      where
        same : (x : State) → whole_held x r ≤ h → whole_held x (accepted i.moment r) ≤ h
        same Opening w = w
        same Turn w = w
        same Drain w = w
        same Reading w = w
        same Waiting w = w
        same Handling w = w
        same Offering w = w
        same Ended w = w

-- ---- how little is held

pub held_cases : HeldCases
held_cases =
    record {
      in_turn = λ r s f t. rw (s, f, t) refl;
      in_drain = λ r s f t. rw (s, f, t) refl;
      in_reading = λ r s t. rw (s, t) (omega arith);
      in_waiting = λ r s t. rw (s, t) (omega arith);
      in_handling = λ r s f. rw (s, f) (omega arith);
      in_offering = λ r s f w. rw (s, f) (omega arith);
      after_error = λ r s f t. rw (s, f, t) (omega arith);
    }
