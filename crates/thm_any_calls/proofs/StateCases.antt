-- One step answers as the table says, and preserves what holds after any list of calls. The step's definition is walked once, in the order of
-- the step table: each state's case gives its answer (Answers), what the run then remembers (Facts), and where the reader and the events then stand
-- (Invariant, Course). Preserved puts the cases together.
use mathlib.Core.Path.{◌≡◌, refl, sym, ap, ◌∙◌, subst}
use mathlib.Core.Bool.{Bool, true, false, not}
use mathlib.Core.List.{List, [], ◌∷◌, ◌++◌}
use mathlib.Core.Logic.{inr}
use mathlib.Core.Option.{some, none}
use Prim.Native.Nat.{ℕ, ◌+◌, ◌-◌, ◌^◌, ◌<◌, ◌≤◌}
use native.Mathlib.Nat.{min-le_left, mod-eq_of_lt}
use native.Mathlib.Omega.{arith}
use borrow.Author.Tests.{ltb-true, ltb-false, le-leb, lt-leb, eqb-true}
use lib.ListN.{length, take, drop, length-take}
use lib.IntN.{ℤ}
use lib.Dec.{ltb, leb, eqb}
use Rattle.wire.specs.Bytes.{pick, at}
use Rattle.wire.proofs.Laws.{by_test, impossible, part_of_front, part_of_part}
use Rattle.framing.specs.Read.{Result, read_of}
use Rattle.framing.specs.Read as R
use Rattle.framing.specs.Feed.{Reads, stored}
use Rattle.frames.specs.Cut.{Cut, cut_of}
use Rattle.frames.specs.Tag.{is_error, is_copy_both_response, is_copy_data}
use Rattle.framing.proofs.Feed.{read_is_cut}
use Rattle.lsn.specs.declared.Lsn.{Lsn}
use Rattle.metrics.specs.declared.Metrics.{Metrics}
use Rattle.metrics.specs.Metrics.{more, with_reply, with_end}
use Rattle.moment.specs.declared.Moment.{Moment}
use Rattle.moment.specs.Moment.{since_of}
use Rattle.pgoutput.specs.Boundary.{boundary_of}
use Rattle.pgoutput.specs.Boundary as B
use Rattle.pgoutput.proofs.LayoutMessage.{parts_within}
use Rattle.progress.specs.Progress.{is_none, cell_position, cell_signal, looked_of}
use Rattle.replication.specs.CopyData.{copy_data_of}
use Rattle.replication.specs.CopyData as C
use Rattle.replication.proofs.LayoutXLogData.{data_within}
use Rattle.worker.specs.declared.State.{State}
use Rattle.worker.specs.declared.State.TheVariants.{Opening, Turn, Drain, Reading, Waiting, Handling, Offering, Ended}
use Rattle.worker.specs.declared.Queue.{Queue}
use Rattle.worker.specs.declared.Queue.TheVariants.{Free, Full, Closed}
use Rattle.worker.specs.declared.Input.{Input}
use Rattle.worker.specs.declared.Offer.{Offer}
use Rattle.worker.specs.declared.Event.{Event}
use Rattle.worker.specs.declared.Event.TheVariants.{Nothing, KeepAlive, StoppedAt}
use Rattle.worker.specs.declared.Run.{Run}
use Rattle.worker.specs.Run.{lsn, cell_in, clock, whole_of, offer, with_state, with_reader, with_clock, with_drained, with_whole, with_offer, with_metrics, accepted}
use Rattle.worker.specs.Tests.{both, unless}
use Rattle.worker.specs.Streaming.{is_copy_done}
use Rattle.worker.specs.Step.{Lent, Outcome, boundary_by, copy_data_by, done_with, drain_of, ended_with, first_offer_by, handing, handling_of, having, idle_of, interval_passed, is_readable, is_stopped_at, moved, next_event, offering_of, offers, opening_by, opening_of, reaches, read_by, reading_by, reading_of, stalled_by, stalled_of, stalls, step_in, status_due, feedback_of, turn_of, waited_by, waiting_by, waiting_of}
use Rattle.worker.specs.Events as E
use Rattle.thm_any_calls.specs.Tests.{onto}
use Rattle.thm_any_calls.specs.Happened.{Happened, happened_of, Parts}
use Rattle.thm_any_calls.specs.Happened as H
use Rattle.thm_any_calls.specs.Plain.{Msg, Gives, gives, reaching, data_gives, payload_gives, is_cut_off, is_full, by_queue}
use Rattle.thm_any_calls.specs.Begins.{is_closed}
use Rattle.thm_any_calls.specs.Trace.{Setup, Trace, a_step, nothing, done, status, Response, taken_by, confirmed_of, full_before}
use Rattle.thm_any_calls.specs.Calls.{Played, stepped, lent_to}
use Rattle.thm_any_calls.specs.Table.{Found, respond, enters, writes, refuses, is_passed, is_idle, status_if, read_response, opening_response, reading_response, idle_response, waiting_response, last_message, boundary_response, copy_data_response, left_of, passed_on, hands_over, drops, again_response, table_of}
use Rattle.thm_any_calls.specs.Counters.{end_after, last_end}
use Rattle.thm_any_calls.specs.Failed.{Shows}
use Rattle.thm_any_calls.specs.Traced.{Answers}
use Rattle.thm_any_calls.specs.Traced as T
use Rattle.thm_any_calls.proofs.Tests.{put_front, found, found_is, used_is, payload_is}
use Rattle.thm_any_calls.proofs.Answers.{handing_answers, moved_answers, refused_answers, done_answers, status_answers}
use Rattle.thm_any_calls.proofs.Course.{Course, Before, Going, Offers, Tied, gives_of, following, before_on, before_over, before_skips, before_error, before_goes, going_on, going_over, going_held, handled_over, handled_back, handled_offer, cut_off, waits_on, hands_last, hands_then_stopped, hands_and_goes}
use Rattle.thm_any_calls.proofs.Facts.{Facts, facts_by, facts_of, takes, with_status_lem, confirmed_facts, at_moment, with_drained_lem, with_wait, with_read, with_tries, with_end_lem, with_reply_lem, passing, stalling, gone_by, Agrees}
use Rattle.thm_any_calls.proofs.Spans.{whole_items}
use Rattle.thm_any_calls.proofs.Ranges.{InRead, told_in, InCopy, copy_in, InBoundary, boundary_in, never_nineteen, none_nineteen}
use Rattle.thm_any_calls.proofs.Invariant.{Awaiting, NotOpened, NoneDone, Anyhow, some_since, none_done_grown, opened_more, last_one, whole_held, whole_last, Runs, Holds, Ends, Placed, Invariant, tell, limit, stop, last_at, with_held, tied_still, still, still_ends, goes_still, goes_over, read_more, read_whole, read_holds, read_refused, read_last}

-- an `E` is no `d`
error_is_none : (tag : ℕ) → is_error tag ≡ true → is_copy_data tag ≡ false
error_is_none tag h = let e : tag ≡ 69 = eqb-true tag 69 h in rw e refl

-- a `W` is no `c`
both_is_none : (tag : ℕ) → is_copy_both_response tag ≡ true → is_copy_done tag ≡ false
both_is_none tag h = let e : tag ≡ 87 = eqb-true tag 87 h in rw e refl

-- nor is a `c` a `d`
done_is_none : (tag : ℕ) → is_copy_done tag ≡ true → is_copy_data tag ≡ false
done_is_none tag h = let e : tag ≡ 99 = eqb-true tag 99 h in rw e refl

-- the stop position is reached, as the plain reading and as the step test it
reaching_is : (has : Bool) (z position : ℕ) (e : Happened)
    → reaching (pick has (some z) none) position e
    ≡ gives (e ∷ pick (pick has (not (ltb position z)) false) (H.stopped_at position ∷ []) []) (pick has (not (ltb position z)) false)
reaching_is false z position e = refl
reaching_is true z position e =
    by_test (ltb position z)
    (λ t. let h : position < z = ltb-true _ _ t in let l : leb z position ≡ false = lt-leb z position h in simp (t, l))
    (λ t. let h : z ≤ position = ltb-false _ _ t in let l : leb z position ≡ true = le-leb z position h in simp (t, l))

-- a step after a trace, on what calls have left, with so many of the next untaken bytes and an output
module _ (s : Setup) (trace : Trace) (z : Played) (i : Input) (n : ℕ) (out : List ℕ) where
  -- as the definitions of the step and of the table name them
  abbrev r : Run
  r = z.run

  abbrev p : List ℕ
  p = z.payload

  abbrev l : Lent
  l = lent_to s.bytes z n out

  -- the bytes that the run took
  abbrev taken : List ℕ
  taken = take z.taken s.bytes

  -- the run as a state's case gets it
  abbrev in_state : State → Run
  in_state x = accepted i.moment (with_state x r)

  -- ---- what a case shows

  -- an outcome's answer is the table's response
  abbrev Answered : Response → Outcome → Type 0
  Answered y o = Answers s trace i l y o

  -- what the run remembers is what the trace says, a step more
  abbrev Agreed : State → Response → Outcome → Type 0
  Agreed from y o = Agrees y.entered (facts_by o.run) (facts_of s (a_step i from y ∷ trace))

  -- a step answers by the table, remembers by the trace, and leaves the reader and the events where the state that it enters has them
  pub record Next (from : State) (y : Response) (o : Outcome) : Type 0 where
    pub answers : Answered y o
    pub agrees : Agreed from y o
    pub invariant : Invariant s y.entered (stepped z i o)
    pub failed : y.refusal ≡ 19 → (y.entered ≡ Ended) × Shows (last_at s (z.taken + o.taken)).1 o.run o.payload

  -- past the tests 2 to 5 the payload buffer is long enough; a step that is not refused
  next : {from : State} {y : Response} {o : Outcome} → y.refusal ≡ 0 → Answered y o → Agreed from y o → Placed s y.entered (stepped z i o)
      → Next from y o
  next {y = y} n a f b = record { answers = a; agrees = f; invariant = inr b; failed = none_nineteen y.refusal n }

  -- what the table responds in a state
  abbrev responds : State → Response
  responds x = table_of x s trace i taken l.unread

  -- the case of a state
  abbrev pub StateCase : State → Type 0
  StateCase x = Next x (responds x) (step_in x (in_state x) i l)

  -- one outcome or another, where the table and the step make the same test
  pub either : {from : State} (c : Bool) {y y' : Response} {o o' : Outcome} → (c ≡ true → Next from y o) → (c ≡ false → Next from y' o')
      → Next from (pick c y y') (pick c o o')
  either true f g = f refl
  either false f g = g refl

  -- a status is written where a test holds
  status_if_lem : {from to : State} (c : Bool) {o o' : Outcome} → Next from (writes (status false) to) o → Next from (enters to) o'
      → Next from (writes (status_if c) to) (pick c o o')
  status_if_lem true a b = a
  status_if_lem false a b = b

  -- where the reader and the events stand before the step, and after one that takes no byte
  abbrev Here : Awaiting → Course → Type 0
  Here A C = Runs s A C r.reader p z.taken z.observed z.events

  abbrev There : Awaiting → Course → Type 0
  There A C = Runs s A C r.reader p (z.taken + 0) (z.observed ++ (tell i 0 0 ∷ [])) (z.events ++ [])

  -- the events of all messages are handed on
  abbrev AllHanded : Course
  AllHanded = Going (stop s) s.opening

  module _ (e : facts_by r ≡ facts_of s trace) where
    -- ---- tests, by the run and by the trace

    -- what is remembered is what the trace says, part by part
    part : {A : Type 0} (f : Facts → A) → f (facts_by r) ≡ f (facts_of s trace)
    part f = ap f e

    settings_is : r.settings ≡ s.settings
    unfolding facts_of
    settings_is = part (λ f. f.settings)

    applied_is : cell_position (cell_in r) ≡ confirmed_of s.start trace
    unfolding facts_of
    applied_is = part (λ f. f.reports.applied)

    passed_is : (x : State) → interval_passed (in_state x) ≡ is_passed s trace i
    unfolding facts_of
    passed_is x = part (λ f. leb f.settings.status_interval (since_of i.moment f.status.at))

    waited_is : (reply : Bool) → waited_by (in_state Turn) ≡ T.waited_by s trace i (status reply)
    unfolding facts_of
    waited_is reply =
        part (λ f. pick (takes f) (pick (is_none f.reports.since) none (some (since_of i.moment f.reports.since))) none)

    counters_are : r.metrics ≡ (facts_of s trace).metrics
    counters_are = part (λ f. f.metrics)

    abbrev idle : Bool
    idle = leb r.settings.idle_wakeup_interval (since_of i.moment r.clock.wait_began)

    idle_is : idle ≡ is_idle s trace i
    unfolding facts_of
    idle_is = part (λ f. leb f.settings.idle_wakeup_interval (since_of i.moment f.clock.wait_began))

    -- what is remembered is as it was, but for the step's moment
    same : at_moment i.moment (facts_by r) ≡ at_moment i.moment (facts_of s trace)
    same = ap (at_moment i.moment) e

    -- ---- a read

    -- what each state that reads gets of the next untaken bytes
    abbrev x : Result
    x = read_by (in_state Reading) i l

    same_read : read_of s.settings.max_message_size r.reader l.unread i.ended p ≡ x
    same_read = rw settings_is

    -- the run with the reader after what it read
    abbrev read_in : State → Run
    read_in st = with_reader x.1 (in_state st)

    -- an outcome that takes what was read answers as f says of the reader's answer
    record Read (from : State) (f : Found → Response) (o : Outcome) : Type 0 where
      shown : Next from (read_response (limit s) taken l.unread i.ended f) (having x.2 x.3 o)

    -- what holds after a read to which the table responds y
    abbrev AfterRead : State → Outcome → Response → Type 0
    AfterRead from o y = Agreed from y o × Placed s y.entered (stepped z i (having x.2 x.3 o))

    -- the reader's answer is a, to which the table responds y
    took : {A : Awaiting} {C : Course} {from : State} {f : Found → Response} {o : Outcome} → Here A C → (a : R.Said) → x.0 ≡ a → (y : Response) → f (found a) ≡ y
        → o.event ≡ E.nothing → (InRead a → y.refusal ≡ 19 → (y.entered ≡ Ended) × Shows (last_at s (z.taken + x.2)).1 o.run x.3)
        → Answered y o → Agreed from y o
        → Placed s y.entered (stepped z i (having x.2 x.3 o)) → Read from f o
    unfolding facts_of
    took {A} {C} {from} {f} {o} b a h y hy hn fl an ag pl =
        let w : Reads (limit s) taken l.unread i.ended p x =
        rw same_read at (read_is_cut s.settings.max_message_size taken l.unread i.ended r.reader p b.base.room b.base.follows)
        in
        let c : Cut = cut_of (limit s) ((cut_of (limit s) taken).rest ++ l.unread) in
        let u : List ℕ = (cut_of (limit s) taken).rest ++ l.unread in
        let q = sym hy ∙ ap f (ap found (sym h ∙ w.answer) ∙ sym (found_is c.items c.ending (length l.unread) i.ended)) in
        let k = subst (AfterRead from o) q (ag, pl) in
        let v : InRead a = subst InRead (sym w.answer ∙ h) (told_in c.items c.ending (length l.unread) i.ended) in
        let none : (c : List ℕ) → happened_of o.event c ≡ [] = λ c. ap (λ (v : E.Said). happened_of v c) hn in
        record {
          shown =
              record {
                answers = record {
                  refusal = an.refusal ∙ ap (λ (g : Response). g.refusal) q;
                  taken = w.taken ∙ ap (λ (n : ℕ). n - length (cut_of (limit s) taken).rest) (sym (used_is c.items c.ending u));
                  payload =
                      w.buffer ∙ (put_front p (stored c.items c.ending u) ∙ ap (λ (b : List ℕ). onto b p) (sym (payload_is c.items c.ending u)));
                  output = an.output ∙ ap (λ (g : Response). T.written_by g.writing (confirmed_of s.start trace) i.client_time out) q;
                  waited = an.waited ∙ ap (λ (g : Response). T.waited_by s trace i g.writing) q;
                  state = an.state ∙ ap (λ (g : Response). g.entered) q;
                  event = none x.3 ∙ sym (none o.payload) ∙ an.event ∙ ap (λ (g : Response). g.event) q;
                  parts = an.parts;
                };
                agrees = k.0;
                invariant = inr k.1;
                failed = λ e. let u = fl v (ap (λ (g : Response). g.refusal) q ∙ e) in (ap (λ (g : Response). g.entered) (sym q) ∙ u.0, u.1);
              };
        }

    -- ---- Opening

    pub opening_next : Here (NotOpened s.opening) (Before (stop s) s.opening) → StateCase Opening
    unfolding step_in opening_of facts_of
    opening_next b = (by x.0 refl).shown
      where
        shown : (tag k : ℕ) → x.0 ≡ R.whole tag k → is_error tag ≡ true
            → Shows (last_at s (z.taken + x.2)).1 (with_state Ended (with_whole (whole_of tag k false) (read_in Opening))) x.3
        shown tag k h ed =
            let m = whole_last b n i x same_read 0 tag k h in
            let c = whole_held b n i x same_read 0 tag k h in
            rw m (record { part = rw (ed, c) refl; bytes = rw c refl })

        by_tag : (tag k : ℕ) → x.0 ≡ R.whole tag k → (c d : Bool) → is_copy_both_response tag ≡ c → is_error tag ≡ d
            → Read Opening opening_response
            (pick c (moved (with_state Turn (read_in Opening)) l)
            (pick d (ended_with 19 (with_whole (whole_of tag k false) (read_in Opening)) l) (moved (read_in Opening) l)))
        by_tag tag k h true d ec ed =
            took b (R.whole tag k) h (enters Turn) (simp ec) refl (λ v g. none_nineteen 0 refl g) (moved_answers _) same
            (read_whole b n i x same_read 0 tag k h
            (λ a o. rw (last_one (0, []) (tag, take k x.3) b.ms) (both_is_none tag ec)) (λ a. before_goes _ _ _ a ec))
        by_tag tag k h false true ec ed =
            took b (R.whole tag k) h (refuses 19) (simp (ec, ed)) refl (λ v g. (refl, shown tag k h ed)) (refused_answers 19 _) counters_are
            (read_last b n i x same_read 19 tag k h (λ a. before_error _ _ _ a ec ed))
        by_tag tag k h false false ec ed =
            took b (R.whole tag k) h (enters Opening) (simp (ec, ed)) refl (λ v g. none_nineteen 0 refl g) (moved_answers _) same
            (read_whole b n i x same_read 0 tag k h (λ a. (a.0, opened_more b.ms (tag, take k x.3) a.1 ec))
            (λ a. before_skips _ _ _ a ec ed))

        by : (a : R.Said) → x.0 ≡ a → Read Opening opening_response (opening_by a (read_in Opening) l)
        by R.more h =
            took b R.more h (enters Opening) refl refl (λ v g. none_nineteen 0 refl g) (moved_answers _) same
            (read_more b n i x same_read 0 h (λ a. a) (before_on _ _ (tell i 0 x.2)))
        by (R.whole tag k) h = by_tag tag k h (is_copy_both_response tag) (is_error tag) refl refl
        by (R.refused k) h =
            took b (R.refused k) h (refuses k) refl refl (λ v g. never_nineteen k v g) (refused_answers k _) counters_are
            (read_refused b n i x same_read k k h (before_over _ _ (tell i k x.2)))

    -- ---- Turn, Drain, Reading, Waiting

    module _ (b : Here NoneDone AllHanded) where
      -- no byte is taken, and nothing handed on
      stays : There NoneDone AllHanded
      stays = goes_still i 0 b

      -- a CopyDone ends the run
      done_next : (st : State) → Agreed st (writes done Ended) (done_with Nothing (in_state st) l)
          → Next st (writes done Ended) (done_with Nothing (in_state st) l)
      done_next st a = next refl (done_answers Nothing (in_state st) refl tt) a (goes_over i 0 b)

      pub turn_next : StateCase Turn
      unfolding step_in turn_of feedback_of facts_of
      turn_next =
          rw (← part (λ f. pick f.status.sent (leb f.settings.status_interval (since_of i.moment f.status.at)) true))
          (status_if_lem (status_due (in_state Turn))
          (next refl (status_answers false Drain (with_drained 0 (in_state Turn)) applied_is (waited_is false))
          (confirmed_facts (with_drained 0 r) i.moment ∙ ap (λ (f : Facts). with_status_lem i.moment (with_drained_lem 0 f)) e) stays)
          (next refl (moved_answers _) (ap (λ (f : Facts). at_moment i.moment (with_drained_lem 0 f)) e) stays))

      pub drain_next : StateCase Drain
      unfolding step_in drain_of looked_of facts_of
      drain_next =
          rw (← part (λ f. f.drained))
          (either (both (ltb r.drained 256) (leb 5 (length l.unread)))
          (λ a. next refl (moved_answers _) (same, under (ltb r.drained 256) (leb 5 (length l.unread)) refl a) stays)
          (λ a.
          either (eqb r.drained 0)
          (λ c. next refl (moved_answers _) (ap (with_wait i.moment) e) stays)
          (λ c. either i.stop (λ d. done_next Drain counters_are) (λ d. next refl (moved_answers _) same stays))))
        where
          under : (c d : Bool) → ltb r.drained 256 ≡ c → both c d ≡ true → r.drained < 256
          under true d f g = ltb-true _ _ f
          under false d f g = impossible cc

      more_goes : x.0 ≡ R.more → Runs s NoneDone AllHanded x.1 x.3 (z.taken + x.2) (z.observed ++ (tell i 0 x.2 ∷ [])) (z.events ++ [])
      more_goes h = read_more b n i x same_read 0 h (none_done_grown b.ms b.ws (tell i 0 x.2)) (going_on _ _ (tell i 0 x.2))

      whole_holds : (in_wait : Bool) (tag k : ℕ) → x.0 ≡ R.whole tag k
          → Holds s (whole_of tag k in_wait) x.1 x.3 (z.taken + x.2) (z.observed ++ (tell i 0 x.2 ∷ [])) (z.events ++ [])
      whole_holds in_wait tag k h = read_holds b n i x same_read 0 tag k h in_wait (going_held _ _)

      refused_ends : (k : ℕ) → x.0 ≡ R.refused k → Ends s (z.taken + x.2) (z.observed ++ (tell i k x.2 ∷ [])) (z.events ++ [])
      refused_ends k h = read_refused b n i x same_read k k h (going_over _ _ (tell i k x.2))

      pub reading_next : r.drained < 256 → StateCase Reading
      unfolding step_in reading_of facts_of
      reading_next d = (by x.0 refl).shown
        where
          -- no counter of so few wraps
          one_drained : more r.drained 1 ≡ r.drained + 1
          one_drained = let w : r.drained + 1 < 2 ^ 64 = omega arith in mod-eq_of_lt w

          by : (a : R.Said) → x.0 ≡ a → Read Reading reading_response (reading_by a (read_in Reading) l)
          by R.more h = took b R.more h (enters Reading) refl refl (λ v g. none_nineteen 0 refl g) (moved_answers _) (same, d) (more_goes h)
          by (R.whole tag k) h =
              took b (R.whole tag k) h (enters Handling) refl refl (λ v g. none_nineteen 0 refl g) (moved_answers _)
              (ap (λ (m : ℕ). with_drained_lem m (with_read false (at_moment i.moment (facts_by r)))) one_drained
              ∙ ap (λ (f : Facts). with_drained_lem (f.drained + 1) (with_read false (at_moment i.moment f))) e)
              (whole_holds false tag k h)
          by (R.refused k) h =
              took b (R.refused k) h (refuses k) refl refl (λ v g. never_nineteen k v g) (refused_answers k _) counters_are (refused_ends k h)

      -- a status, and the wait ends
      wakes : Next Waiting (writes (status false) Turn) (feedback_of false Turn (in_state Waiting) i l)
      unfolding feedback_of facts_of
      wakes =
          next refl (status_answers false Turn (in_state Waiting) applied_is (waited_is false))
          (confirmed_facts r i.moment ∙ ap (with_status_lem i.moment) e) stays

      idle_next : Next Waiting (idle_response idle) (idle_of (in_state Waiting) i l)
      unfolding facts_of
      idle_next = either idle (λ a. wakes) (λ a. next refl (moved_answers _) same stays)

      waiting_read_lem : (a : R.Said) → x.0 ≡ a → Read Waiting (waiting_response idle) (waiting_by a (read_in Waiting) i l)
      unfolding feedback_of facts_of
      waiting_read_lem R.more h = by idle
        where
          by : (c : Bool) → Read Waiting (waiting_response c) (pick c (feedback_of false Turn (read_in Waiting) i l) (moved (read_in Waiting) l))
          by true =
              took b R.more h (writes (status false) Turn) refl refl (λ v g. none_nineteen 0 refl g)
              (status_answers false Turn (read_in Waiting) applied_is (waited_is false))
              (confirmed_facts (with_reader x.1 r) i.moment ∙ ap (with_status_lem i.moment) e)
              (more_goes h)
          by false = took b R.more h (enters Waiting) refl refl (λ v g. none_nineteen 0 refl g) (moved_answers _) same (more_goes h)
      waiting_read_lem (R.whole tag k) h =
          took b (R.whole tag k) h (enters Handling) refl refl (λ v g. none_nineteen 0 refl g) (moved_answers _)
          (ap (λ (f : Facts). with_read true (at_moment i.moment f)) e)
          (whole_holds true tag k h)
      waiting_read_lem (R.refused k) h =
          took b (R.refused k) h (refuses k) refl refl (λ v g. never_nineteen k v g) (refused_answers k _) counters_are (refused_ends k h)

      pub waiting_next : StateCase Waiting
      unfolding step_in waiting_of facts_of
      waiting_next =
          rw (← part (λ f. f.pending), ← part (λ f. f.reports.signalled), ← passed_is Waiting, ← idle_is)
          (either i.stop (λ a. done_next Waiting counters_are)
          (λ a.
          either (both r.pending (interval_passed (in_state Waiting))) (λ c. wakes)
          (λ c.
          either (unless r.pending (cell_signal (cell_in r))) (λ d. next refl (moved_answers _) same stays)
          (λ d. either (is_readable i l) (λ f. (waiting_read_lem x.0 refl).shown) (λ f. idle_next)))))

    -- ---- Handling

    module _ (same_taken : z.taken ≡ taken_by trace) (w : Holds s r.whole r.reader p z.taken z.observed z.events) where
      -- the message's payload, the message, and what it gives
      abbrev q : List ℕ
      q = take r.whole.len p

      abbrev held : Msg
      held = (r.whole.tag, q)

      abbrev given_now : Gives
      given_now = gives_of (stop s) s.opening held

      last_message_lem : last_at s z.taken ≡ held
      last_message_lem = rw (w.base.items, whole_items) (last_one (0, []) held w.ms)

      -- the server's end once the message is handled
      abbrev Told : Lsn → Type 0
      Told v = end_after (last_message (limit s) (take (taken_by trace) s.bytes)) (last_end s trace) ≡ v

      tells : (v : Lsn) → end_after held (last_end s trace) ≡ v → Told v
      tells v h = rw (← same_taken, last_message_lem) h

      refused_next : (k : ℕ) (v : Lsn) (m : Run) → m.metrics ≡ with_end r.metrics v → Told v → given_now.events ≡ []
          → (k ≡ 19 → (Ended ≡ Ended) × Shows (last_at s (z.taken + 0)).1 (with_state Ended m) p) → Next Handling (refuses k) (ended_with k m l)
      unfolding facts_of
      refused_next k v m hm hv g fl =
          record {
            answers = refused_answers k (with_state Ended m);
            agrees = rw hv (hm ∙ ap (λ (c : Metrics). with_end c v) counters_are);
            invariant = inr (still_ends i k (with_held w) (λ a h. handled_over _ _ _ (tell i k 0) h g));
            failed = fl;
          }

      -- the server's CopyDone, answered in kind
      done_now : (v : Lsn) (m : Run) → m.metrics ≡ with_end r.metrics v → Told v → given_now.events ≡ []
          → Next Handling (writes done Ended) (done_with Nothing m l)
      unfolding facts_of
      done_now v m hm hv g =
          next refl (done_answers Nothing m refl tt) (rw hv (hm ∙ ap (λ (c : Metrics). with_end c v) counters_are))
          (still_ends i 0 (with_held w) (λ a h. handled_over _ _ _ (tell i 0 0) h g))

      -- the message is an error of the server
      shown : is_error r.whole.tag ≡ true → Shows (last_at s (z.taken + 0)).1 (with_state Ended (in_state Handling)) p
      shown a =
          let q0 : z.taken + 0 ≡ z.taken = omega arith in
          let c : length q ≡ r.whole.len = w.full in
          rw (q0, last_message_lem) (record { part = rw (a, c) refl; bytes = rw c refl })

      -- the run that handled a message which told the server's end
      abbrev ended_at : Lsn → Run
      ended_at v = with_metrics (with_end r.metrics v) (in_state Handling)

      -- an event is offered, and what follows it
      module _ (ev : Event) (y : Happened) (stops : Bool) (reached : Lsn) (hs : is_stopped_at ev ≡ false) (he : happened_of (E.said_by ev) p ≡ y ∷ [])
          (hp : Parts (E.said_by ev) (length q)) (g : given_now ≡ gives (y ∷ following (offer ev false stops reached)) stops) where
        offers_now : There Anyhow (Offers (stop s) s.opening (offer ev false stops reached) p) × Tied (stop s) (offer ev false stops reached) p
            (last_at s (z.taken + 0))
        offers_now = (
          still i 0 (with_held w) (λ a. tt) (λ a h. handled_offer _ _ _ _ h _ _ y refl he g),
          tied_still s (offer ev false stops reached) p z.taken
              (rw last_message_lem
              (record {
                e = y;
                event = he;
                left = rw hs (ap (λ (v : Gives). v.events) g);
                ends = rw hs (ap (λ (v : Gives). v.ends) g);
                lone = λ a. impossible cc;
                parts = hp;
              })),
        )

        offers_next : (v : Lsn) → Told v → Next Handling (enters Offering) (moved (offers ev stops reached (ended_at v)) l)
        unfolding facts_of
        offers_next v hv =
            next refl (moved_answers _)
            (rw hv
            (ap (λ (c : Bool). with_tries false (gone_by c) (with_end_lem v (at_moment i.moment (facts_by r)))) hs
            ∙ ap (λ (f : Facts). with_tries false 0 (with_end_lem v (at_moment i.moment f))) e))
            offers_now

      -- an event that reaches a position is offered
      reaching_next : (ev : Event) (y : Happened) (position : ℕ) (v : Lsn) → is_stopped_at ev ≡ false → happened_of (E.said_by ev) p ≡ y ∷ []
          → Parts (E.said_by ev) (length q)
          → given_now ≡ reaching (stop s) position y → Told v
          → Next Handling (enters Offering) (moved (offers ev (reaches r (lsn position)) (lsn position) (ended_at v)) l)
      reaching_next ev y position v hs he hp g hv =
          offers_next ev y _ _ hs he hp (g ∙ rw settings_is (reaching_is s.settings.has_stop s.settings.stop_at_lsn.0 position y)) v hv

      boundary_next : (c : B.Said) (begin end : ℕ) (time : ℤ) (from len : ℕ) → from + len ≤ length q → boundary_of (at p from len) ≡ c
          → given_now ≡ data_gives (stop s) begin end time (at p from len) c → Told (lsn end)
          → Next Handling (boundary_response c) (boundary_by c begin end time from len (ended_at (lsn end)) l)
      boundary_next (B.begin final at_time xid) begin end time from len hw hc g hv = reaching_next _ _ final (lsn end) refl refl tt g hv
      boundary_next (B.commit position commit_end at_time) begin end time from len hw hc g hv =
          reaching_next _ _ commit_end (lsn end) refl refl tt g hv
      boundary_next (B.message flag position pf pl cf cl) begin end time from len hw hc g hv =
          let v = parts_within (at p from len) flag position pf pl cf cl hc in
          let v0 : pf + pl ≤ length (at p from len) = v.0 in
          let v1 : cf + cl ≤ length (at p from len) = v.1 in
          let m : length (at p from len) ≤ len = rw length-take (min-le_left len (length (drop from p))) in
          let prefix : at (at p from len) pf pl ≡ at p (from + pf) pl = part_of_part p from len pf pl (omega arith) in
          let content : at (at p from len) cf cl ≡ at p (from + cf) cl = part_of_part p from len cf cl (omega arith) in
          reaching_next _ _ end (lsn end) refl (rw (prefix, content)) (omega arith, omega arith) g hv
      boundary_next B.no_boundary begin end time from len hw hc g hv = reaching_next _ _ end (lsn end) refl refl hw g hv
      boundary_next (B.refused k) begin end time from len hw hc g hv =
          refused_next k (lsn end) (ended_at (lsn end)) refl hv (ap (λ (y : Gives). y.events) g)
          (never_nineteen k (subst InBoundary hc (boundary_in (at p from len))))

      -- the run that answers a keepalive
      abbrev replying : ℕ → ℤ → Run
      replying end time =
          let o : Run = offers (KeepAlive (lsn end) time true) false (lsn 0) (ended_at (lsn end)) in with_metrics (with_reply o.metrics) o

      copy_data_next : (c : C.Said) → is_copy_data r.whole.tag ≡ true → copy_data_of q ≡ c → given_now ≡ payload_gives (stop s) q c
          → Next Handling (copy_data_response q c) (copy_data_by c (in_state Handling) i l)
      unfolding feedback_of facts_of
      copy_data_next (C.w begin end time from len) hd hc g =
          let v : from + len ≤ length q = data_within q begin end time from len hc in
          let m : length q ≤ r.whole.len = rw length-take (min-le_left r.whole.len (length p)) in
          let a : at q from len ≡ at p from len = part_of_front r.whole.len from len p (omega arith) in
          rw a (boundary_next (boundary_of (at p from len)) begin end time from len v refl (g ∙ rw a) (tells (lsn end) (simp (hd, hc))))
      copy_data_next (C.k end time true) hd hc g =
          next refl (status_answers true Offering (replying end time) applied_is (waited_is true))
          (rw (tells (lsn end) (simp (hd, hc)))
          (confirmed_facts (with_metrics (with_reply (with_end r.metrics (lsn end)))
          (with_offer (offer (KeepAlive (lsn end) time true) false false (lsn 0)) r)) i.moment
          ∙ ap (λ (f : Facts). with_status_lem i.moment (with_reply_lem (with_end_lem (lsn end) (with_tries false 0 f)))) e))
          (offers_now (KeepAlive (lsn end) time true) _ false (lsn 0) refl refl tt g)
      copy_data_next (C.k end time false) hd hc g =
          offers_next (KeepAlive (lsn end) time false) _ false (lsn 0) refl refl tt g (lsn end) (tells (lsn end) (simp (hd, hc)))
      copy_data_next (C.refused k) hd hc g =
          refused_next k r.metrics.last_wal_end (in_state Handling) refl
          (tells _ (simp (hd, hc) (sym (ap (λ (c : Metrics). c.last_wal_end) counters_are)))) (ap (λ (y : Gives). y.events) g)
          (never_nineteen k (subst InCopy hc (copy_in q)))

      -- back to Drain or Turn, by where the message was read
      back_next : (c : Bool) → given_now ≡ gives [] false → Told (last_end s trace)
          → Next Handling (enters (pick c Turn Drain)) (moved (with_state (pick c Turn Drain) (in_state Handling)) l)
      unfolding facts_of
      back_next true g hv =
          next refl (moved_answers _) (rw hv same)
          (still i 0 (with_held w) (λ a o. some_since [] (tell i 0 0) o) (λ a h. handled_back _ _ _ (tell i 0 0) h g))
      back_next false g hv =
          next refl (moved_answers _) (rw hv same)
          (still i 0 (with_held w) (λ a o. some_since [] (tell i 0 0) o) (λ a h. handled_back _ _ _ (tell i 0 0) h g))

      pub handling_next : StateCase Handling
      unfolding step_in handling_of facts_of
      handling_next =
          rw (last_message_lem, ← part (λ f. f.in_wait))
          (either (is_error r.whole.tag)
          (λ a.
          refused_next 19 r.metrics.last_wal_end (in_state Handling) refl
          (tells _ (simp (error_is_none r.whole.tag a) (sym (ap (λ (c : Metrics). c.last_wal_end) counters_are)))) (simp a)
          (λ g. (refl, shown a)))
          (λ a.
          either (is_copy_done r.whole.tag)
          (λ d.
          done_now r.metrics.last_wal_end (in_state Handling) refl
          (tells _ (simp (done_is_none r.whole.tag d) (sym (ap (λ (c : Metrics). c.last_wal_end) counters_are)))) (simp (a, d)))
          (λ d.
          either (is_copy_data r.whole.tag) (λ c. copy_data_next (copy_data_of q) c refl (simp (a, d, c)))
          (λ c. back_next r.whole.in_wait (simp (a, d, c)) (tells _ (simp c))))))

    -- ---- Offering

    module _ (same_taken : z.taken ≡ taken_by trace) (b : Here Anyhow (Offers (stop s) s.opening r.offer p))
        (t : Tied (stop s) r.offer p (last_at s z.taken))
      where
        -- what the table says is left, and hands over
        left_is : left_of s trace taken ≡ t.e ∷ following r.offer
        unfolding facts_of
        left_is = rw (← part (λ f. f.tries.gone)) t.left

        full_is : full_before trace ≡ r.offer.stalled
        unfolding facts_of
        full_is = sym (part (λ f. f.tries.stalled))

        -- whether a stop request cuts the event off now
        abbrev CutOff : Bool → Type 0
        CutOff c = is_cut_off (tell i 0 0) r.offer.stalled ≡ c

        -- whether a stall begins now, and whether one ends
        abbrev Begins : Bool → Type 0
        Begins c = unless (full_before trace) (is_full i.queue) ≡ c

        abbrev Stops : Bool → Type 0
        Stops c = both (full_before trace) (unless i.stop (not (is_full i.queue))) ≡ c

        cut_next : (m : Run) (g : Bool) → m.metrics ≡ (stalling g i.moment (facts_by r)).metrics → Begins g → Stops false → CutOff true
            → Next Offering (writes done Ended) (done_with Nothing m l)
        unfolding facts_of
        cut_next m g hm hb hs c =
            next refl (done_answers Nothing m refl tt) (rw (hb, hs) (hm ∙ ap (λ (f : Facts). (stalling g i.moment f).metrics) e))
            (still_ends i 0 b (λ a h. cut_off _ _ _ h c))

        -- ev is the event, which a free queue takes; or any, where a queue closes
        abbrev Takes : Event → Type 0
        Takes ev = is_closed i.queue ≡ false → (ev ≡ r.offer.event) × (i.queue ≡ Free) × CutOff false

        -- StoppedAt is the message's second event
        stopped_tied : is_stopped_at r.offer.event ≡ false → r.offer.stops ≡ true
            → Tied (stop s) (offer (StoppedAt r.offer.reached) false false (lsn 0)) p (last_at s (z.taken + 0))
        stopped_tied hc hf =
            tied_still s (offer (StoppedAt r.offer.reached) false false (lsn 0)) p z.taken
            (record {
              e = H.stopped_at r.offer.reached.0;
              event = refl;
              left = ap (λ (es : List Happened). drop 1 es) (rw hc at t.left) ∙ rw hf;
              ends = t.ends ∙ rw (hc, hf);
              lone = λ a. refl;
              parts = tt;
            })

        -- the run goes on after the event, which was handed on or dropped; d: its stall ends
        module _ (ev : Event) (m : Metrics) (d : Bool) (es : List Happened) (hm : m ≡ (passing d es i.moment (facts_by r)).metrics)
            (he : happened_of (E.said_by ev) p ≡ es)
            (hp : Parts (E.said_by ev) (length (last_at s (taken_by trace)).1)) (nf : is_full i.queue ≡ false) (hb : Begins false) (hs : Stops d)
            (tk : Takes ev) where
          -- what the run then remembers
          gone_on : passing d es i.moment (facts_by r) ≡ passing d es i.moment (facts_of s trace)
          gone_on = ap (passing d es i.moment) e

          passed_next : Next Offering (passed_on s trace taken es) (next_event ev (with_metrics m (in_state Offering)) l)
          unfolding facts_of
          passed_next =
              rw (left_is, t.ends, ← part (λ f. f.in_wait)) (by (is_stopped_at r.offer.event) r.offer.stops r.whole.in_wait refl refl)
            where
              goes : is_stopped_at r.offer.event ≡ false → r.offer.stops ≡ false
                  → Runs s NoneDone AllHanded r.reader p (z.taken + 0) (z.observed ++ (tell i 0 0 ∷ [])) (z.events ++ happened_of (E.said_by ev) p)
              goes hc hd = still i 0 b (λ a o. some_since b.ws (tell i 0 0) o) (λ a h. let k = tk a in rw k.0 (hands_and_goes _ _ _ h k.2 k.1 hd hc))

              by : (c f in_wait : Bool) → is_stopped_at r.offer.event ≡ c → r.offer.stops ≡ f
                  → Next Offering
                  (pick (ltb 1 (length (t.e ∷ pick f (H.stopped_at r.offer.reached.0 ∷ []) []))) (respond 0 nothing Offering es)
                  (pick (pick c true f) (respond 0 done Ended es) (respond 0 nothing (pick in_wait Turn Drain) es)))
                  (pick c (done_with ev (with_metrics m (in_state Offering)) l)
                  (handing ev
                  (pick f (offers (StoppedAt r.offer.reached) false (lsn 0) (with_metrics m (in_state Offering)))
                  (with_state (pick in_wait Turn Drain) (with_metrics m (in_state Offering))))
                  l))
              by true true in_wait hc hf = let k = t.lone hc in impossible cc
              by true false in_wait hc hf =
                  next refl (done_answers ev (with_metrics m (in_state Offering)) he hp) (rw (hb, hs) (hm ∙ ap (λ (f : Facts). f.metrics) gone_on))
                  (still_ends i 0 b (λ a h. let k = tk a in rw k.0 (hands_last _ _ _ h k.2 k.1)))
              by false true in_wait hc hf =
                  next refl (handing_answers ev _ he hp)
                  (rw (hb, hs, nf, hm)
                  (ap (λ (c : Bool). with_tries false (gone_by c + 1) (passing d es i.moment (facts_by r))) (sym hc)
                  ∙ ap (λ (f : Facts). with_tries false (f.tries.gone + 1) f) gone_on))
                  (still i 0 b (λ a. tt) (λ a h. let k = tk a in rw k.0 (hands_then_stopped _ _ _ h k.2 k.1 hf)), stopped_tied hc hf)
              by false false true hc hf = next refl (handing_answers ev _ he hp) (rw (hb, hs, hm) gone_on) (goes hc hf)
              by false false false hc hf = next refl (handing_answers ev _ he hp) (rw (hb, hs, hm) gone_on) (goes hc hf)

        -- a free queue takes the event
        hands_next : (m : Metrics) (d : Bool) → m ≡ (passing d (t.e ∷ []) i.moment (facts_by r)).metrics → i.queue ≡ Free → Begins false → Stops d
            → CutOff false
            → Next Offering (hands_over s trace taken) (next_event r.offer.event (with_metrics m (in_state Offering)) l)
        hands_next m d hm hq hb hs c =
            let handed : take 1 (left_of s trace taken) ≡ t.e ∷ [] = ap (take 1) left_is in
            rw handed (passed_next r.offer.event m d (t.e ∷ []) hm t.event (rw (← same_taken) t.parts) (ap is_full hq) hb hs
            (λ a. (refl, hq, c)))

        -- a closed one lets it drop
        drops_next : (m : Metrics) (d : Bool) → m ≡ (passing d [] i.moment (facts_by r)).metrics → i.queue ≡ Closed → Begins false → Stops d
            → Next Offering (drops s trace taken) (next_event Nothing (with_metrics m (in_state Offering)) l)
        drops_next m d hm hq hb hs = passed_next Nothing m d [] hm refl tt (ap is_full hq) hb hs (λ a. impossible cc)

        -- the event, with its stall begun
        abbrev stalled : Offer
        stalled = offer r.offer.event true r.offer.stops r.offer.reached

        -- the run then
        abbrev stalled_at : Offer → Moment → Metrics → Run
        stalled_at o began m = with_metrics m (with_clock (clock i.moment r.clock.wait_began began) (with_offer o (in_state Offering)))

        -- the queue is full: a status, or nothing; g: the stall begins now
        full_next : (o : Offer) (g : Bool) → stalled ≡ o → i.queue ≡ Full → Begins g → Stops false → CutOff false
            → Next Offering (writes (status_if (is_passed s trace i)) Offering)
            (let a : Run = stalled_at o (pick g i.moment r.clock.stall_began) (stalling g i.moment (facts_by r)).metrics in
            pick (interval_passed (in_state Offering)) (feedback_of false Offering a i l) (moved a l))
        unfolding feedback_of facts_of
        full_next o g ho hq hb hs c =
            let began : Moment = pick g i.moment r.clock.stall_began in
            let m : Metrics = (stalling g i.moment (facts_by r)).metrics in
            let w : There Anyhow (Offers (stop s) s.opening o p) × Tied (stop s) o p (last_at s (z.taken + 0)) =
            (still i 0 b (λ a. tt) (λ a h. rw ho at (waits_on _ _ (tell i 0 0) h c hq)), rw ho at (tied_still s stalled p z.taken stalled_tied)) in
            let f : stalling g i.moment (facts_by r) ≡ stalling g i.moment (facts_of s trace) = ap (stalling g i.moment) e in
            rw (← passed_is Offering)
            (status_if_lem (interval_passed (in_state Offering))
            (next refl (status_answers false Offering (stalled_at o began m) applied_is (waited_is false))
            (rw (← ho, hb, hs, hq) (confirmed_facts (stalled_at stalled began m) i.moment ∙ ap (with_status_lem i.moment) f)) w)
            (next refl (moved_answers _) (rw (← ho, hb, hs, hq) f) w))
          where
            stalled_tied : Tied (stop s) stalled p (last_at s z.taken)
            stalled_tied = record { e = t.e; event = t.event; left = t.left; ends = t.ends; lone = t.lone; parts = t.parts }

        no_stop : i.stop ≡ false → CutOff false
        no_stop a = simp a

        -- a stop request while the queue is full, or was at an earlier offer
        cut_now : i.stop ≡ true → pick (is_full i.queue) true r.offer.stalled ≡ true → CutOff true
        cut_now a c = simp (a, c)

        -- a later try
        again_next : r.offer.stalled ≡ true → Next Offering (again_response s trace i taken) (stalled_of (in_state Offering) i l)
        unfolding stalled_of
        again_next y =
            either i.stop (λ a. cut_next (in_state Offering) false refl begins (rw (full_is, y, a) refl) (cut_now a (was_full (is_full i.queue))))
            (λ a. by i.queue refl a (no_stop a))
          where
            begins : Begins false
            begins = rw (full_is, y) refl

            was_full : (c : Bool) → pick c true r.offer.stalled ≡ true
            was_full true = refl
            was_full false = y

            by : (u : Queue) → i.queue ≡ u → i.stop ≡ false → CutOff false
                → Next Offering (by_queue u (hands_over s trace taken) (writes (status_if (is_passed s trace i)) Offering) (drops s trace taken))
                (stalled_by u (in_state Offering) i l)
            by Free hq a c = hands_next _ true refl hq begins (rw (full_is, y, a, hq) refl) c
            by Closed hq a c = drops_next _ true refl hq begins (rw (full_is, y, a, hq) refl)
            by Full hq a c =
                full_next r.offer false (ap (λ (v : Bool). offer r.offer.event v r.offer.stops r.offer.reached) (sym y)) hq begins
                (rw (full_is, y, a, hq) refl) c

        -- the first try
        first_next : (u : Queue) → i.queue ≡ u → r.offer.stalled ≡ false
            → Next Offering (by_queue u (hands_over s trace taken) (again_response s trace i taken) (drops s trace taken))
            (first_offer_by u (in_state Offering) i l)
        unfolding stalled_of
        first_next Free hq y = hands_next _ false refl hq (rw (full_is, y, hq) refl) (rw (full_is, y) refl) (by i.stop)
          where
            by : (c : Bool) → pick c (pick (is_full i.queue) true r.offer.stalled) false ≡ false
            by true = rw (hq, y) refl
            by false = refl
        first_next Closed hq y = drops_next r.metrics false refl hq (rw (full_is, y, hq) refl) (rw (full_is, y) refl)
        first_next Full hq y =
            either i.stop (λ a. cut_next (stalls (in_state Offering)) true refl begins ends (cut_now a (rw hq refl)))
            (λ a. by i.queue hq (no_stop a))
          where
            begins : Begins true
            begins = rw (full_is, y, hq) refl

            ends : Stops false
            ends = rw (full_is, y) refl

            by : (u : Queue) → u ≡ Full → CutOff false
                → Next Offering (by_queue u (hands_over s trace taken) (writes (status_if (is_passed s trace i)) Offering) (drops s trace taken))
                (stalled_by u (stalls (in_state Offering)) i l)
            by Full f c = full_next stalled true refl hq begins ends c
            by Free f c = impossible cc
            by Closed f c = impossible cc

        pub offering_next : StateCase Offering
        unfolding step_in offering_of facts_of
        offering_next = rw (← part (λ f. f.tries.stalled)) (either r.offer.stalled again_next (first_next i.queue refl))
