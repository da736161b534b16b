-- The same step again and again: until the run has ended each is accepted, since its clock stands still, its output has room for a status and the
-- payload buffer for the limit.
use mathlib.Core.Path.{◌≡◌, refl, ap, ◌∙◌}
use mathlib.Core.Bool.{Bool, true, false}
use mathlib.Core.List.{List, [], ◌∷◌}
use mathlib.Core.Logic.{◌⊎◌, inl, inr}
use Prim.Native.Nat.{ℕ, zero, suc, ◌+◌, ◌≤◌, ◌<◌, ◌^◌}
use native.Mathlib.Omega.{arith}
use borrow.Author.Tests.{le-ltb}
use lib.ListN.{length, take, drop, replicate}
use lib.Dec.{ltb}
use lib.IntN.{pos}
use Rattle.wire.specs.Bytes.{pick}
use Rattle.wire.proofs.Laws.{by_test, impossible}
use Rattle.lsn.specs.declared.Lsn.{Lsn}
use Rattle.moment.specs.declared.Moment.{Moment}
use Rattle.worker.specs.declared.Input.{Input}
use Rattle.worker.specs.declared.Queue.TheVariants.{Free}
use Rattle.worker.specs.declared.Settings.{Settings}
use Rattle.worker.specs.declared.State.{State}
use Rattle.worker.specs.declared.State.TheVariants.{Opening, Turn, Drain, Reading, Waiting, Handling, Offering, Ended}
use Rattle.thm_any_calls.specs.Plain.{is_refused_early}
use Rattle.thm_any_calls.specs.Tests.{is_ended, longest}
use Rattle.thm_any_calls.specs.Trace.{Setup, nothing, Response, Trace, state_after, taken_by, last_accepted}
use Rattle.thm_any_calls.specs.Table.{respond, limit_by, table_of, is_bad_moment, response_of}
use Rattle.thm_any_calls.specs.Calls.{is_open, Call, step, played, setup_of}
use Rattle.thm_any_calls.specs.Traced.{trace_one, trace_all, trace_of}
use Rattle.thm_any_calls.proofs.Preserved.{played_preserved}
use Rattle.thm_any_calls.proofs.Ranges.{state_late}
use Rattle.load.specs.Load.{stream_of}
use Rattle.thm_load_handed.specs.LoadHanded.{Undisturbed, holds_back}
use Rattle.thm_load_handed.specs.Reached.{AllUnread, enough, Reached, LoadCanBeReached}
use Rattle.thm_load_handed.proofs.Reached.{count_of, At, first_at, step_at, at_end}

-- a moment at which no time has passed since the last
abbrev still : Moment
still = record { 0 = 1 }

abbrev quiet : Input
quiet = record { moment = still; client_time = pos 0; stop = false; queue = Free; ended = false }

abbrev room : List ℕ
room = replicate 39 0

-- so many of these steps
unfoldable steps : ℕ → ℕ → List Call
steps len zero = []
steps len (suc k) = step quiet len room ∷ steps len k

undisturbed_so : (len k : ℕ) → Undisturbed (steps len k)
unfolding steps
undisturbed_so len zero = tt
undisturbed_so len (suc k) = (refl, refl, undisturbed_so len k)

unread_so : (len k : ℕ) → AllUnread len (steps len k)
unfolding steps
unread_so len zero = tt
unread_so len (suc k) = (omega arith, unread_so len k)

-- none of 2 to 5 holds
passes : (a b c d : Bool) (u v w z y : Response) → a ≡ false → b ≡ false → c ≡ false → d ≡ false → pick a u (pick b v (pick c w (pick d z y))) ≡ y
passes false false false false u v w z y e f g h = refl
passes true b c d u v w z y e f g h = impossible cc
passes false true c d u v w z y e f g h = impossible cc
passes false false true d u v w z y e f g h = impossible cc
passes false false false true u v w z y e f g h = impossible cc

ended_is : (st : State) → is_ended st ≡ true → st ≡ Ended
ended_is Opening e = impossible cc
ended_is Turn e = impossible cc
ended_is Drain e = impossible cc
ended_is Reading e = impossible cc
ended_is Waiting e = impossible cc
ended_is Handling e = impossible cc
ended_is Offering e = impossible cc
ended_is Ended e = refl

module _ (s : Settings) (start : Lsn) (seed n : ℕ) (p : List ℕ) (fits : seed < 2 ^ 64) (no_stop : s.has_stop ≡ false)
    (wide : 100 ≤ longest s.max_message_size) (long : longest s.max_message_size ≤ length p) where
  abbrev x : Setup
  x = setup_of s (is_open start) (stream_of n seed) (length p)

  abbrev len : ℕ
  len = length (stream_of n seed)

  -- so many steps were accepted, or the run has ended; and the clock stood still
  record Went (h : Trace) (k : ℕ) : Type 0 where
    at_place : At s start seed n p fits no_stop wide h
    accepted : (k ≤ count_of h) ⊎ (state_after false h ≡ Ended)
    clock : (last_accepted h).0 ≤ 1

  abbrev answer : Trace → Response
  answer h = response_of x h quiet len (length room)

  accepted_one : (h : Trace) → (last_accepted h).0 ≤ 1 → is_ended (state_after false h) ≡ false → is_refused_early (answer h).refusal ≡ false
  accepted_one h l e =
      let b : List ℕ = take (taken_by h) (stream_of n seed) in
      let u : List ℕ = take len (drop (taken_by h) (stream_of n seed)) in
      let st : State = state_after false h in
      let y : Response = table_of st x h quiet b u in
      let same : answer h ≡ y =
      passes (is_ended st) (ltb (length p) (limit_by x)) (ltb (length room) 39) (is_bad_moment h still)
      (respond 2 nothing st []) (respond 3 nothing st []) (respond 4 nothing st []) (respond 5 nothing st []) y
      e (le-ltb (length p) (limit_by x) long) refl (le-ltb 1 (last_accepted h).0 l) in
      ap (λ (r : Response). is_refused_early r.refusal) same ∙ state_late x h quiet b u st e

  one_more : (h : Trace) (k : ℕ) → Went h k → Went (trace_one x h (step quiet len room)) (suc k)
  unfolding count_of state_after last_accepted
  one_more h k w =
      let a = step_at s start seed n p fits no_stop wide h quiet len room w.at_place refl refl (omega arith) in
      by_test (is_ended (state_after false h))
      (λ t. after_end a (ended_is (state_after false h) t))
      (λ t. go_on a (accepted_one h w.clock t) w.accepted t)
    where
      after_end : At s start seed n p fits no_stop wide (trace_one x h (step quiet len room)) → state_after false h ≡ Ended
          → Went (trace_one x h (step quiet len room)) (suc k)
      after_end a e =
          let same : answer h ≡ respond 2 nothing Ended [] = rw e refl in
          record { at_place = a; accepted = inr (ap (λ (r : Response). r.entered) same); clock = rw same w.clock }

      go_on : At s start seed n p fits no_stop wide (trace_one x h (step quiet len room)) → is_refused_early (answer h).refusal ≡ false
          → (k ≤ count_of h) ⊎ (state_after false h ≡ Ended) → is_ended (state_after false h) ≡ false
          → Went (trace_one x h (step quiet len room)) (suc k)
      go_on a e (inl l) t = record { at_place = a; accepted = inl (rw e (omega arith)); clock = rw e (omega arith) }
      go_on a e (inr f) t = impossible (cc (f, t))

  all_steps : (k j : ℕ) (h : Trace) → Went h j → Went (trace_all x h (steps len k)) (k + j)
  unfolding trace_all steps
  all_steps zero j h w = let e : 0 + j ≡ j = omega arith in rw e w
  all_steps (suc k) j h w =
      let e : suc k + j ≡ k + suc j = omega arith in
      rw e (all_steps k (suc j) (trace_one x h (step quiet len room)) (one_more h j w))

  begun : Went [] 0
  unfolding last_accepted
  begun = record { at_place = first_at s start seed n p fits no_stop wide; accepted = inl (omega arith); clock = omega arith }

  ends : Reached n seed (played s (is_open start) (stream_of n seed) p (steps len (enough n)))
  ends =
      let cs : List Call = steps len (enough n) in
      let h : Trace = trace_of x cs in
      let w = all_steps (enough n) 0 [] begun in
      let f = (played_preserved s (is_open start) (stream_of n seed) p cs).follows in
      let e = at_end s start seed n p fits no_stop wide h w.at_place (less w.accepted) in
      record { taken = f.taken ∙ e.0; none_held = ap holds_back f.state ∙ e.2; events = f.events ∙ e.1 }
    where
      less : {c : ℕ} {X : Type 0} → (enough n + 0 ≤ c) ⊎ X → (enough n ≤ c) ⊎ X
      less (inl l) = inl (omega arith)
      less (inr e) = inr e

pub load_can_be_reached : LoadCanBeReached
load_can_be_reached s start seed n p fits no_stop far long =
    let wide : 100 ≤ longest s.max_message_size = omega arith in
    let len : ℕ = length (stream_of n seed) in
    record {
      calls = steps len (enough n);
      undisturbed = undisturbed_so len (enough n);
      all_unread = unread_so len (enough n);
      reached = ends s start seed n p fits no_stop wide long;
    }
