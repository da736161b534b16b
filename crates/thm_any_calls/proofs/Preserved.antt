-- What holds after any list of calls: a step refused with 2 to 5 changes nothing, any other takes its state's case (StateCases), a report changes what
-- is remembered and what the trace says alike (Facts). Counters, HandsOn and Condition3 read their conclusions off.
use mathlib.Core.Path.{◌≡◌, refl, sym, ap, ◌∙◌}
use mathlib.Core.Bool.{Bool, true, false}
use mathlib.Core.List.{List, [], ◌∷◌, ◌++◌}
use mathlib.Core.Logic.{⊎_elim, inl, inr}
use Prim.Native.Nat.{ℕ, ◌+◌, ◌≤◌}
use native.Mathlib.Omega.{arith}
use borrow.Author.Tests.{ltb-true, ltb-false, lt-ltb, le-ltb}
use lib.ListN.{length, take, drop}
use lib.Dec.{ltb}
use Rattle.wire.specs.Bytes.{pick}
use Rattle.wire.proofs.Laws.{by_test, impossible}
use Rattle.framing.specs.Read.{limit_of}
use Rattle.moment.specs.Moment.{is_before, in_range}
use Rattle.worker.specs.declared.Settings.{Settings}
use Rattle.worker.specs.declared.State.{State}
use Rattle.worker.specs.declared.State.TheVariants.{Opening, Turn, Drain, Reading, Waiting, Handling, Offering, Ended}
use Rattle.worker.specs.declared.Input.{Input}
use Rattle.worker.specs.Run.{fresh_run}
use Rattle.worker.specs.Step.{Lent, Outcome, bad_moment, is_ended, refused_with, step_of}
use Rattle.worker.specs.Session.{report_of}
use Rattle.thm_any_calls.specs.Happened.{Happened, happened_of}
use Rattle.thm_any_calls.specs.Plain.{Observation, is_refused_early, has_opened, given, taken_of}
use Rattle.thm_any_calls.specs.Trace.{Setup, Trace, nothing, Response, state_after, taken_by, handed_by, observations_of}
use Rattle.thm_any_calls.specs.Calls.{Beginning, is_opening, start_of, Call, step, report, Played, lent_to, play_one, play_all, begun, played, setup_of}
use Rattle.thm_any_calls.specs.Table.{respond, last_or, step_response, response_of, is_bad_moment}
use Rattle.thm_any_calls.specs.Refused.{unchanged}
use Rattle.thm_any_calls.specs.Traced.{Follows, trace_one, trace_all, trace_of}
use Rattle.thm_any_calls.proofs.Answers.{refused_answers}
use Rattle.thm_any_calls.proofs.Beginnings.{first_state, run_begun_lem}
use Rattle.thm_any_calls.proofs.Course.{nothing_offered}
use Rattle.thm_any_calls.proofs.Facts.{Facts, facts_by, facts_of, fresh_facts, early_facts, Agrees, agree_now, report_agrees}
use Rattle.thm_any_calls.proofs.Invariant.{Placed, Invariant, limit, no_base, early_still}
use Rattle.thm_any_calls.proofs.Ranges.{state_late}
use Rattle.thm_any_calls.proofs.StateCases.{Next, StateCase, either, opening_next, turn_next, drain_next, reading_next, waiting_next, handling_next, offering_next}

-- the run is where the trace leads, what it remembers is what the trace says, and the reader and the events stand by its state
pub record Preserved (s : Setup) (trace : Trace) (z : Played) : Type 0 where
  pub follows : Follows s trace z
  pub agrees : Agrees z.run.state (facts_by z.run) (facts_of s trace)
  pub invariant : Invariant s z.run.state z

-- ---- a step

module _ (s : Setup) (trace : Trace) (z : Played) (w : Preserved s trace z) (i : Input) (n : ℕ) (out : List ℕ) where
  abbrev l : Lent
  l = lent_to s.bytes z n out

  state_next : (x : State) → is_ended x ≡ false → Agrees x (facts_by z.run) (facts_of s trace) → Placed s x z → StateCase s trace z i n out x
  state_next Opening h e b = opening_next s trace z i n out e b
  state_next Turn h e b = turn_next s trace z i n out e b
  state_next Drain h e b = drain_next s trace z i n out e b
  state_next Reading h e b = reading_next s trace z i n out e.0 b e.1
  state_next Waiting h e b = waiting_next s trace z i n out e b
  state_next Handling h e b = handling_next s trace z i n out e w.follows.taken b
  state_next Offering h e b = offering_next s trace z i n out e w.follows.taken b.0 b.1
  state_next Ended h e b = impossible cc

  -- refused with 2 to 5
  early_next : (k : ℕ) → is_refused_early k ≡ true
      → Next s trace z i n out z.run.state (respond k nothing z.run.state []) (refused_with k z.run l)
  early_next k e =
      record {
        answers = refused_answers k z.run;
        agrees = rw (early_facts s trace i z.run.state k e) w.agrees;
        invariant = early_still s z i n out k e z.run.state w.invariant;
        failed = λ g. let f : is_refused_early 19 ≡ true = ap is_refused_early (sym g) ∙ e in impossible cc;
      }

  -- the payload buffer is as long as the first was, as far as 3 asks
  same_room : (x : State) → is_ended x ≡ false → Invariant s x z → ltb s.room (limit s) ≡ ltb (length z.payload) (limit s)
  same_room x h (inl b) = lt-ltb _ _ b.size ∙ sym (lt-ltb _ _ b.buffer)
  same_room Opening h (inr b) = le-ltb _ _ b.base.size ∙ sym (le-ltb _ _ b.base.room)
  same_room Turn h (inr b) = le-ltb _ _ b.base.size ∙ sym (le-ltb _ _ b.base.room)
  same_room Drain h (inr b) = le-ltb _ _ b.base.size ∙ sym (le-ltb _ _ b.base.room)
  same_room Reading h (inr b) = le-ltb _ _ b.base.size ∙ sym (le-ltb _ _ b.base.room)
  same_room Waiting h (inr b) = le-ltb _ _ b.base.size ∙ sym (le-ltb _ _ b.base.room)
  same_room Handling h (inr b) = le-ltb _ _ b.base.size ∙ sym (le-ltb _ _ b.base.room)
  same_room Offering h (inr b) = le-ltb _ _ b.0.base.size ∙ sym (le-ltb _ _ b.0.base.room)
  same_room Ended h (inr b) = impossible cc

  -- by the state that the run is in
  by_state : Next s trace z i n out z.run.state
      (step_response z.run.state s trace i (take z.taken s.bytes) l.unread (length out)) (step_of z.run i l)
  unfolding step_of facts_of
  by_state =
      either s trace z i n out (is_ended z.run.state) (λ a. early_next 2 refl)
      (λ a.
      let e : facts_by z.run ≡ facts_of s trace = agree_now z.run.state _ _ a w.agrees in
      let hl : limit_of z.run.settings.max_message_size ≡ limit s = ap (λ (f : Facts). limit_of f.settings.max_message_size) e in
      let hm : bad_moment z.run i.moment ≡ is_bad_moment trace i.moment =
      ap (λ (f : Facts). pick (in_range i.moment) (is_before i.moment f.clock.last) true) e in
      rw (hl, ← hm, same_room z.run.state a w.invariant)
      (either s trace z i n out (ltb (length z.payload) (limit s)) (λ c. early_next 3 refl)
      (λ c.
      either s trace z i n out (ltb (length out) 39) (λ d. early_next 4 refl)
      (λ d.
      either s trace z i n out (bad_moment z.run i.moment) (λ f. early_next 5 refl)
      (λ f.
      ⊎_elim (λ h. let k : limit s ≤ length z.payload = ltb-false _ _ c in absurd (omega arith)) (state_next z.run.state a w.agrees)
      w.invariant)))))

  -- a response and an outcome where a refusal with 2 to 5 leaves everything as it was
  pub record Leaves (y : Response) (o : Outcome) : Type 0 where
    pub left : is_refused_early y.refusal ≡ true → o ≡ unchanged y.refusal z.run l

  either_leaves : (c : Bool) {y y' : Response} {o o' : Outcome} → (c ≡ true → Leaves y o) → (c ≡ false → Leaves y' o')
      → Leaves (pick c y y') (pick c o o')
  either_leaves true f g = f refl
  either_leaves false f g = g refl

  refused_by_state : Leaves (step_response z.run.state s trace i (take z.taken s.bytes) l.unread (length out)) (step_of z.run i l)
  unfolding step_of facts_of
  refused_by_state =
      either_leaves (is_ended z.run.state) (λ a. record { left = λ k. refl })
      (λ a.
      let e : facts_by z.run ≡ facts_of s trace = agree_now z.run.state _ _ a w.agrees in
      let hl : limit_of z.run.settings.max_message_size ≡ limit s = ap (λ (f : Facts). limit_of f.settings.max_message_size) e in
      let hm : bad_moment z.run i.moment ≡ is_bad_moment trace i.moment =
      ap (λ (f : Facts). pick (in_range i.moment) (is_before i.moment f.clock.last) true) e in
      rw (hl, ← hm, same_room z.run.state a w.invariant)
      (either_leaves (ltb (length z.payload) (limit s)) (λ c. record { left = λ k. refl })
      (λ c.
      either_leaves (ltb (length out) 39) (λ d. record { left = λ k. refl })
      (λ d.
      either_leaves (bad_moment z.run i.moment) (λ f. record { left = λ k. refl })
      (λ f. record { left = λ k. let y = state_late s trace i (take z.taken s.bytes) l.unread z.run.state a in impossible cc })))))

  pub refused_leaves : Leaves (response_of s trace i n (length out)) (step_of z.run i l)
  refused_leaves = rw (← w.follows.state, ← w.follows.taken) refused_by_state

  -- by the state that the trace leads to
  pub step_next : Next s trace z i n out (state_after s.opening trace) (response_of s trace i n (length out)) (step_of z.run i l)
  step_next = rw (← w.follows.state, ← w.follows.taken) by_state

  -- one step more
  pub step_preserved : Preserved s (trace_one s trace (step i n out)) (play_one s.bytes z (step i n out))
  unfolding state_after taken_by handed_by observations_of
  step_preserved =
      let k = step_next in
      let a = k.answers in
      record {
        follows =
            record {
              state = a.state;
              taken = ap (λ (m : ℕ). m + (step_of z.run i l).taken) w.follows.taken ∙ ap (λ (m : ℕ). taken_by trace + m) a.taken;
              events =
                  ap (λ (es : List Happened). es ++ happened_of (step_of z.run i l).event (step_of z.run i l).payload) w.follows.events
                  ∙ ap (λ (es : List Happened). handed_by trace ++ es) a.event;
              observed = seen w.follows.observed a.refusal a.taken;
            };
        agrees = rw a.state k.agrees;
        invariant = rw a.state k.invariant;
      }
    where
      seen : {os us : List Observation} {c d e f : ℕ} → os ≡ us → c ≡ d → e ≡ f
          → os ++ (record { stop = i.stop; queue = i.queue; refusal = c; taken = e } ∷ []) ≡ us ++
          (record { stop = i.stop; queue = i.queue; refusal = d; taken = f } ∷ [])
      seen p q r = rw (p, q, r) refl

-- ---- any list of calls

pub calls_preserved : (s : Setup) (cs : List Call) (trace : Trace) (z : Played) → Preserved s trace z
    → Preserved s (trace_all s trace cs) (play_all s.bytes z cs)
unfolding play_all trace_all report_of state_after taken_by handed_by observations_of
calls_preserved s [] trace z w = w
calls_preserved s (step i n out ∷ cs) trace z w =
    calls_preserved s cs (trace_one s trace (step i n out)) (play_one s.bytes z (step i n out)) (step_preserved s trace z w i n out)
calls_preserved s (report file p m ∷ cs) trace z w =
    let f = w.follows in
    calls_preserved s cs (trace_one s trace (report file p m)) (play_one s.bytes z (report file p m))
    (record {
      follows = record { state = f.state; taken = f.taken; events = f.events; observed = f.observed };
      agrees = report_agrees s trace z.run.state z.run file p m w.agrees;
      invariant = w.invariant;
    })

-- ---- on a run that was begun, in Opening or already open

first_agrees : (s : Setup) → Agrees (first_state s.opening) (facts_by (fresh_run s.settings (first_state s.opening) s.start)) (facts_of s [])
first_agrees s = by s.opening
  where
    by : (b : Bool) → Agrees (first_state b) (facts_by (fresh_run s.settings (first_state b) s.start)) (facts_of s [])
    by true = fresh_facts s Opening
    by false = fresh_facts s Turn

-- with a payload buffer as long as the limit
first_placed : (s : Setup) (p : List ℕ) (b : Bool) → s.opening ≡ b → limit s ≤ length p → limit s ≤ s.room
    → Placed s (first_state b) (begun (fresh_run s.settings (first_state b) s.start) p)
unfolding fresh_run given has_opened last_or
first_placed s p true e h k =
    record { ms = []; ws = []; base = no_base p h k; always = (e, refl); course = λ q. record { begun = e; none = refl; yet = λ ns. rw e refl } }
first_placed s p false e h k =
    record {
      ms = [];
      ws = [];
      base = no_base p h k;
      always = λ o. refl;
      course = λ q. record { all = rw e refl; goes = λ ns. rw e refl; settled = λ us. rw e (nothing_offered false (drop 1 us)) };
    }

pub played_preserved : (s : Settings) (b : Beginning) (bytes p : List ℕ) (cs : List Call)
    → let x : Setup = setup_of s b bytes (length p) in Preserved x (trace_of x cs) (played s b bytes p cs)
unfolding played fresh_run taken_of state_after taken_by handed_by observations_of
played_preserved s b bytes p cs =
    let x : Setup = setup_of s b bytes (length p) in
    let y : State = first_state (is_opening b) in
    rw (run_begun_lem s b)
    (calls_preserved x cs [] (begun (fresh_run s y (start_of b)) p)
    (record {
      follows = record { state = refl; taken = refl; events = refl; observed = refl };
      agrees = first_agrees x;
      invariant =
          by_test (ltb (length p) (limit x)) (λ h. inl (record { buffer = ltb-true _ _ h; size = ltb-true _ _ h; untaken = refl; none = refl }))
          (λ h. inr (first_placed x p (is_opening b) refl (ltb-false _ _ h) (ltb-false _ _ h)));
    }))
