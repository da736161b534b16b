-- By the run's state, as what holds after any list of calls says (claims, Preserved): only in Handling can a `c` wait to be answered, and there the
-- step's definition answers it.
use mathlib.Core.Path.{◌≡◌, refl, sym, ap, ◌∙◌, subst}
use mathlib.Core.Bool.{Bool, true, false}
use mathlib.Core.List.{List, [], ◌∷◌, ◌++◌, append-nil}
use mathlib.Core.Logic.{inl, inr}
use mathlib.Core.Option.{Option}
use Prim.Native.Nat.{ℕ, ◌+◌, ◌<◌}
use native.Mathlib.Omega.{arith}
use borrow.Author.Tests.{lt-ltb}
use lib.ListN.{length, drop}
use lib.Seq.{drop-nil}
use lib.Dec.{ltb}
use Rattle.wire.specs.Bytes.{pick, put, be_bytes}
use Rattle.wire.proofs.Laws.{by_test, impossible}
use Rattle.frames.specs.Message.{framed}
use Rattle.frames.specs.Tag.{is_error, is_copy_both_response}
use Rattle.framing.specs.Read.{limit_of}
use Rattle.frontend.specs.Frontend.{copy_done_message}
use Rattle.worker.specs.declared.Input.{Input}
use Rattle.worker.specs.declared.Run.{Run}
use Rattle.worker.specs.declared.Settings.{Settings}
use Rattle.worker.specs.declared.State.{State}
use Rattle.worker.specs.declared.State.TheVariants.{Opening, Turn, Drain, Reading, Waiting, Handling, Offering, Ended}
use Rattle.worker.specs.declared.Event.TheVariants.{Nothing}
use Rattle.worker.specs.Run.{accepted}
use Rattle.worker.specs.Step.{Outcome, Lent, bad_moment, done_with, handling_of, is_stopped_at, step_in, step_of}
use Rattle.worker.specs.Streaming.{is_copy_done}
use Rattle.worker.specs.Session.{report_of}
use Rattle.thm_any_calls.specs.Happened.{Happened}
use Rattle.thm_any_calls.specs.Plain.{Msg, Observation, Gives, message_gives, has_opened, after_opening, given, span_of, after_byte, accepted_ones, is_refused_early}
use Rattle.thm_any_calls.specs.Tests.{is_ended}
use Rattle.thm_any_calls.specs.Trace.{Setup, Trace, state_after}
use Rattle.thm_any_calls.specs.Table.{last_or, response_of}
use Rattle.thm_any_calls.specs.Calls.{Beginning, run_begun, Call, step, report, Played, stepped, lent_to, play_one, play_all, begun, played, setup_of}
use Rattle.thm_any_calls.specs.Traced.{trace_of}
use Rattle.thm_any_calls.specs.Refused.{unchanged}
use Rattle.thm_any_calls.proofs.Account.{Account, whole_at}
use Rattle.thm_any_calls.proofs.Course.{Tied, following}
use Rattle.thm_any_calls.proofs.Facts.{gone_by}
use Rattle.thm_any_calls.proofs.Invariant.{Goings, Placed, Invariant, Short, last_one, last_at, limit, stop, message_of}
use Rattle.thm_any_calls.proofs.Preserved.{Preserved, step_next, played_preserved}
use Rattle.thm_any_calls.proofs.Spans.{span_more}
use Rattle.thm_server_done.specs.ServerDone.{done, Arrived, Answered, Over, ServerEnds, EventsStop}

-- ---- the event list

opened_stays : (ms ns : List Msg) → has_opened ms ≡ true → has_opened (ms ++ ns) ≡ true
unfolding has_opened
opened_stays [] ns h = impossible cc
opened_stays (m ∷ ms) ns h = by (is_copy_both_response m.0) (λ e. opened_stays ms ns e) h
  where
    by : (b : Bool) → (has_opened ms ≡ true → has_opened (ms ++ ns) ≡ true) → pick b true (has_opened ms) ≡ true
        → pick b true (has_opened (ms ++ ns)) ≡ true
    by true f e = refl
    by false f e = f e

-- one after the other, until the `c`
given_stops : (stop : Option ℕ) (before after : List Msg) (payload : List ℕ) → given stop (before ++ (done payload ∷ after)) ≡ given stop before
unfolding given
given_stops stop [] after payload = refl
given_stops stop (m ∷ ms) after payload =
    let g : Gives = message_gives stop m.0 m.1 in
    ap (λ (es : List Happened). g.events ++ pick g.ends [] es) (given_stops stop ms after payload)

-- a CopyDone after the first `W` ends the events of a run that began in Opening
opening_stops : (stop : Option ℕ) (before after : List Msg) (payload : List ℕ) → has_opened before ≡ true
    → given stop (after_opening (before ++ (done payload ∷ after))) ≡ given stop (after_opening before)
unfolding has_opened after_opening
opening_stops stop [] after payload h = impossible cc
opening_stops stop (m ∷ ms) after payload h =
    by (is_copy_both_response m.0) (is_error m.0) (λ e. opening_stops stop ms after payload e) h
  where
    by : (c d : Bool)
        → (has_opened ms ≡ true → given stop (after_opening (ms ++ (done payload ∷ after))) ≡ given stop (after_opening ms))
        → pick c true (has_opened ms) ≡ true
        → given stop (pick c (ms ++ (done payload ∷ after)) (pick d [] (after_opening (ms ++ (done payload ∷ after)))))
        ≡ given stop (pick c ms (pick d [] (after_opening ms)))
    by true d f e = given_stops stop ms after payload
    by false true f e = refl
    by false false f e = f e

pub events_stop : EventsStop
events_stop stop true before after payload h = opening_stops stop before after payload (h refl)
events_stop stop false before after payload h = given_stops stop before after payload

-- ---- a run that has ended

ended_step : (r : Run) (i : Input) (l : Lent) → r.state ≡ Ended → step_of r i l ≡ unchanged 2 r l
unfolding step_of
ended_step r i l e = rw e refl

-- it stays so, with its events and counters
abbrev Kept : Played → Played → Type 0
Kept z y = (y.run.state ≡ Ended) × (y.events ≡ z.events) × (y.run.metrics ≡ z.run.metrics)

kept_once : (bytes : List ℕ) (z : Played) (c : Call) → z.run.state ≡ Ended → Kept z (play_one bytes z c)
unfolding report_of
kept_once bytes z (step i n out) e =
    subst (λ (o : Outcome). Kept z (stepped z i o)) (sym (ended_step z.run i (lent_to bytes z n out) e)) (e, append-nil z.events, refl)
kept_once bytes z (report file p m) e = (e, refl, refl)

kept_on : (bytes : List ℕ) (z : Played) (ds : List Call) → z.run.state ≡ Ended → Kept z (play_all bytes z ds)
unfolding play_all
kept_on bytes z [] e = (e, refl, refl)
kept_on bytes z (d ∷ ds) e =
    let a = kept_once bytes z d e in
    let b = kept_on bytes (play_one bytes z d) ds a.0 in
    (b.0, b.1 ∙ a.1, b.2 ∙ a.2)

-- calls after calls
play_more : (bytes : List ℕ) (z : Played) (cs ds : List Call) → play_all bytes z (cs ++ ds) ≡ play_all bytes (play_all bytes z cs) ds
unfolding play_all
play_more bytes z [] ds = refl
play_more bytes z (c ∷ cs) ds = play_more bytes (play_one bytes z c) cs ds

-- ---- the step that answers

module _ (r : Run) (i : Input) (l : Lent) (early : is_refused_early (step_of r i l).refusal ≡ false) where
  not_ended : {X : Type 0} → r.state ≡ Ended → X
  not_ended e =
      let q : is_refused_early (step_of r i l).refusal ≡ true = ap (λ (o : Outcome). is_refused_early o.refusal) (ended_step r i l e) in impossible cc

  -- in Handling of a `c`: past 2 to 5 it is the step's definition
  answers_it : r.state ≡ Handling → r.whole.tag ≡ 99 → step_of r i l ≡ done_with Nothing (accepted i.moment r) l
  unfolding step_of step_in handling_of
  answers_it h t =
      by_test (ltb (length l.payload) (limit_of r.settings.max_message_size))
      (λ a. let q : is_refused_early (step_of r i l).refusal ≡ true = rw (h, a) refl in impossible cc)
      (λ a.
      by_test (ltb (length l.out) 39)
      (λ c. let q : is_refused_early (step_of r i l).refusal ≡ true = rw (h, a, c) refl in impossible cc)
      (λ c.
      by_test (bad_moment r i.moment)
      (λ d. let q : is_refused_early (step_of r i l).refusal ≡ true = rw (h, a, c, d) refl in impossible cc)
      (λ d. rw (h, a, c, d, t) refl)))

  abbrev ended : Outcome
  ended = done_with Nothing (accepted i.moment r) l

-- ---- after any list of calls

module _ (s : Settings) (b : Beginning) (bytes p : List ℕ) (cs : List Call) where
  abbrev x : Setup
  x = setup_of s b bytes (length p)

  abbrev h : Trace
  h = trace_of x cs

  abbrev z : Played
  z = played s b bytes p cs

  w : Preserved x h z
  w = played_preserved s b bytes p cs

  module _ (v : Arrived x h) where
    abbrev all : List Msg
    all = v.before ++ (done v.payload ∷ [])

    -- the messages of the bytes taken
    messages : whole_at (limit x) bytes z.taken ≡ all
    messages = ap (whole_at (limit x) bytes) w.follows.taken ∙ v.messages

    last_is : (ms : List Msg) → whole_at (limit x) bytes z.taken ≡ ms → last_or (0, []) ms ≡ done v.payload
    last_is ms e = ap (last_or (0, [])) (sym e ∙ messages) ∙ last_one (0, []) (done v.payload) v.before

    -- no step was accepted since the last byte of the last
    since_is : (ms : List Msg) (ws : List Observation) → Account (limit x) bytes z.taken z.observed ms ws → ws ≡ []
    since_is ms ws a =
        let e : ms ≡ all = sym a.whole ∙ messages in
        let k : span_of all ≡ span_of v.before + (5 + length v.payload) = span_more v.before (done v.payload) in
        let n : 0 < span_of all = omega arith in
        let m : accepted_ones (after_byte (span_of ms) z.observed) ≡ ws = a.since (rw e n) in
        sym m ∙ (ap (λ (y : List Msg). accepted_ones (after_byte (span_of y) z.observed)) e
        ∙ (ap (λ (ts : List Observation). accepted_ones (after_byte (span_of all) ts)) w.follows.observed ∙ v.unanswered))

    module _ (i : Input) (n : ℕ) (out : List ℕ) where
      abbrev l : Lent
      l = lent_to bytes z n out

      module _ (early : is_refused_early (step_of z.run i l).refusal ≡ false) where
        -- the payload buffer was too short from the beginning: every step is 3
        not_short : {X : Type 0} → Short x z.payload z.observed z.events → X
        not_short u =
            let y = (step_next x h z w i n out).answers.refusal in
            let q : is_refused_early (response_of x h i n (length out)).refusal ≡ true = three u.size in
            let k : is_refused_early (step_of z.run i l).refusal ≡ true = ap is_refused_early y ∙ q in
            impossible cc
          where
            three : x.room < limit x → is_refused_early (response_of x h i n (length out)).refusal ≡ true
            three g = by_test (is_ended (state_after x.opening h)) (λ a. rw a refl) (λ a. rw (a, lt-ltb _ _ g) refl)

        -- in Turn, Drain, Reading and Waiting the last message was handled
        not_going : {X : Type 0} → Goings x z.run.reader z.payload z.taken z.observed z.events → X
        not_going u =
            let e = since_is u.ms u.ws u.base.account in
            let q : is_copy_done (last_or (0, []) u.ms).0 ≡ false = u.always e in
            let k : last_or (0, []) u.ms ≡ done v.payload = last_is u.ms u.base.account.whole in
            let t : is_copy_done 99 ≡ false = ap (λ (m : Msg). is_copy_done m.0) (sym k) ∙ q in
            impossible cc

        handling_tag : Placed x Handling z → z.run.whole.tag ≡ 99
        handling_tag u =
            let m : Msg = message_of z.run.whole z.payload in
            ap (λ (y : Msg). y.0) (sym (last_one (0, []) m u.ms) ∙ last_is (u.ms ++ (m ∷ [])) u.base.account.whole)

        not_offering : {X : Type 0} → Placed x Offering z → X
        not_offering u =
            let k : last_at x z.taken ≡ done v.payload = last_is (whole_at (limit x) bytes z.taken) refl in
            let t : Tied (stop x) z.run.offer z.payload (done v.payload) = subst (Tied (stop x) z.run.offer z.payload) k u.1 in
            let d : drop (gone_by (is_stopped_at z.run.offer.event)) [] ≡ t.e ∷ following z.run.offer = t.left in
            let g : length (t.e ∷ following z.run.offer) ≡ 0 =
            ap (λ (y : List Happened). length y) (sym d ∙ drop-nil (gone_by (is_stopped_at z.run.offer.event))) in
            absurd (omega arith)

        by_state : (st : State) → z.run.state ≡ st → Invariant x st z → step_of z.run i l ≡ ended z.run i l early
        by_state st e (inl u) = not_short u
        by_state Opening e (inr u) =
            let o : has_opened v.before ≡ true = v.opened u.always.0 in
            let k : has_opened all ≡ true = opened_stays v.before (done v.payload ∷ []) o in
            let m : u.ms ≡ all = sym u.base.account.whole ∙ messages in
            let f : has_opened all ≡ false = ap has_opened (sym m) ∙ u.always.1 in
            impossible cc
        by_state Turn e (inr u) = not_going u
        by_state Drain e (inr u) = not_going u
        by_state Reading e (inr u) = not_going u
        by_state Waiting e (inr u) = not_going u
        by_state Handling e (inr u) = answers_it z.run i l early e (handling_tag u)
        by_state Offering e (inr u) = not_offering u
        by_state Ended e (inr u) = not_ended z.run i l early e

        answered : step_of z.run i l ≡ ended z.run i l early
        answered = by_state z.run.state refl w.invariant

        pub answer : Answered z l (step_of z.run i l)
        unfolding put copy_done_message framed be_bytes
        answer =
            subst (Answered z l) (sym answered)
            (record {
              refusal = refl;
              taken = refl;
              event = refl;
              written = refl;
              output = refl;
              payload = refl;
              waited = refl;
              state = refl;
              counters = refl;
            })

        pub after : (ds : List Call) → Over bytes z (played s b bytes p (cs ++ (step i n out ∷ ds)))
        unfolding played play_all
        after ds =
            let now : Played = play_one bytes z (step i n out) in
            let a = answer in
            let k : Kept now (play_all bytes now ds) = kept_on bytes now ds a.state in
            let first : Kept z now = subst (λ (o : Outcome). Kept z (stepped z i o)) (sym answered) (refl, append-nil z.events, refl) in
            rw (play_more bytes (begun (run_begun s b) p) cs (step i n out ∷ ds))
            (record {
              events = k.1 ∙ first.1;
              counters = k.2 ∙ first.2;
              next = λ j m last. ended_step (play_all bytes now ds).run j (lent_to bytes (play_all bytes now ds) m last) k.0;
            })

pub server_ends : ServerEnds
server_ends s b bytes p cs =
    record { answer = λ v i n out early. answer s b bytes p cs v i n out early; after = λ v i n out early ds. after s b bytes p cs v i n out early ds }
