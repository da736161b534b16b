-- After 19 the run shows the server's error: in the step that ends it (StateCases), and by then no call changes the run's end or the payload buffer.
use mathlib.Core.Path.{◌≡◌, refl, sym, ap, ◌∙◌, subst}
use mathlib.Core.Bool.{Bool, true, false}
use mathlib.Core.List.{List, [], ◌∷◌, ◌++◌}
use Prim.Native.Nat.{ℕ, ◌+◌}
use native.Mathlib.Omega.{arith}
use borrow.Author.Tests.{eqb-true}
use lib.ListN.{length, take}
use lib.Dec.{eqb}
use Rattle.wire.specs.Bytes.{pick}
use Rattle.wire.proofs.Laws.{impossible}
use Rattle.worker.specs.declared.Input.{Input}
use Rattle.worker.specs.declared.State.TheVariants.{Ended}
use Rattle.worker.specs.Step.{Outcome, is_ended, step_of}
use Rattle.worker.specs.Session.{report_of}
use Rattle.thm_one_call.proofs.Effects.{ended_refused}
use Rattle.thm_any_calls.specs.Trace.{Setup, Trace, Response, taken_by}
use Rattle.thm_any_calls.specs.Calls.{Call, step, report, Played, stepped, lent_to, play_one, play_all, played, begun, run_begun, setup_of}
use Rattle.thm_any_calls.specs.Table.{limit_by, last_message, response_of}
use Rattle.thm_any_calls.specs.Traced.{trace_one, trace_all, trace_of}
use Rattle.thm_any_calls.specs.Views.{has_failed}
use Rattle.thm_any_calls.specs.Failed.{Shows, ErrorShown, ErrorTraced}
use Rattle.thm_any_calls.proofs.Preserved.{Preserved, step_next, calls_preserved, played_preserved}

-- calls after calls
play_more : (bytes : List ℕ) (z : Played) (cs ds : List Call) → play_all bytes z (cs ++ ds) ≡ play_all bytes (play_all bytes z cs) ds
unfolding play_all
play_more bytes z [] ds = refl
play_more bytes z (c ∷ cs) ds = play_more bytes (play_one bytes z c) cs ds

-- a run that shows an error has ended
abbrev Shown : List ℕ → Played → Type 0
Shown m z = (z.run.state ≡ Ended) × Shows m z.run z.payload

shown_on : (bytes m : List ℕ) (ds : List Call) (z : Played) → Shown m z → Shown m (play_all bytes z ds)
unfolding play_all report_of
shown_on bytes m [] z h = h
shown_on bytes m (step i n out ∷ ds) z h =
    shown_on bytes m ds (play_one bytes z (step i n out))
    (subst (λ (o : Outcome). Shown m (stepped z i o)) (sym (ended_refused z.run i (lent_to bytes z n out) (ap is_ended h.0))) h)
shown_on bytes m (report file p t ∷ ds) z h =
    shown_on bytes m ds (play_one bytes z (report file p t)) (h.0, record { part = h.1.part; bytes = h.1.bytes })

shown_after : (bytes m : List ℕ) (ds : List Call) (z : Played) (c : Call) → Shown m (play_one bytes z c)
    → Shows m (play_all bytes z (c ∷ ds)).run (play_all bytes z (c ∷ ds)).payload
unfolding play_all
shown_after bytes m ds z c h = (shown_on bytes m ds (play_one bytes z c) h).1

pub error_shown : ErrorShown
unfolding played
error_shown s b bytes p cs i n out ds e =
    let x : Setup = setup_of s b bytes (length p) in
    let h : Trace = trace_of x cs in
    let y : Response = response_of x h i n (length out) in
    let first : Played = begun (run_begun s b) p in
    let z : Played = play_all bytes first cs in
    let w = played_preserved s b bytes p cs in
    let k = step_next x h z w i n out in
    let m : List ℕ = (last_message (limit_by x) (take (taken_by h + y.taken) bytes)).1 in
    let same : z.taken + (step_of z.run i (lent_to bytes z n out)).taken ≡ taken_by h + y.taken =
    ap (λ (c : ℕ). c + (step_of z.run i (lent_to bytes z n out)).taken) w.follows.taken ∙ ap (λ (c : ℕ). taken_by h + c) k.answers.taken in
    let now : Shown m (play_one bytes z (step i n out)) = (k.answers.state ∙ (k.failed e).0, rw (← same) (k.failed e).1) in
    rw (play_more bytes first cs (step i n out ∷ ds)) (shown_after bytes m ds z (step i n out) now)

-- ---- any list in which a step was refused with 19

-- the payload of the last whole message of the bytes taken
abbrev last_payload : Setup → ℕ → List ℕ
last_payload s t = (last_message (limit_by s) (take t s.bytes)).1

module _ (s : Setup) (h : Trace) (z : Played) (w : Preserved s h z) (f : has_failed h ≡ true → Shown (last_payload s (taken_by h)) z) where
  step_shown : (i : Input) (n : ℕ) (out : List ℕ) → has_failed (trace_one s h (step i n out)) ≡ true
      → Shown (last_payload s (taken_by (trace_one s h (step i n out)))) (play_one s.bytes z (step i n out))
  unfolding has_failed taken_by
  step_shown i n out e = by (eqb y.refusal 19) refl e
    where
      y : Response
      y = response_of s h i n (length out)

      by : (b : Bool) → eqb (response_of s h i n (length out)).refusal 19 ≡ b → pick b true (has_failed h) ≡ true
          → Shown (last_payload s (taken_by h + (response_of s h i n (length out)).taken)) (play_one s.bytes z (step i n out))
      by true t q =
          let k = step_next s h z w i n out in
          let g = k.failed (eqb-true _ 19 t) in
          let same : z.taken + (step_of z.run i (lent_to s.bytes z n out)).taken ≡ taken_by h + (response_of s h i n (length out)).taken =
          ap (λ (c : ℕ). c + (step_of z.run i (lent_to s.bytes z n out)).taken) w.follows.taken
          ∙ ap (λ (c : ℕ). taken_by h + c) k.answers.taken in
          (k.answers.state ∙ g.0, rw (← same) g.1)
      by false t q =
          let k = step_next s h z w i n out in
          let v = f q in
          let o = ended_refused z.run i (lent_to s.bytes z n out) (ap is_ended v.0) in
          let none : (response_of s h i n (length out)).taken ≡ 0 = sym k.answers.taken ∙ ap (λ (c : Outcome). c.taken) o in
          let same : taken_by h + (response_of s h i n (length out)).taken ≡ taken_by h = omega (arith, none) in
          rw same (subst (λ (c : Outcome). Shown (last_payload s (taken_by h)) (stepped z i c)) (sym o) v)

calls_shown : (s : Setup) (cs : List Call) (h : Trace) (z : Played) → Preserved s h z → (has_failed h ≡ true → Shown (last_payload s (taken_by h)) z)
    → has_failed (trace_all s h cs) ≡ true → Shown (last_payload s (taken_by (trace_all s h cs))) (play_all s.bytes z cs)
unfolding play_all trace_all report_of has_failed taken_by
calls_shown s [] h z w f e = f e
calls_shown s (step i n out ∷ cs) h z w f e =
    calls_shown s cs (trace_one s h (step i n out)) (play_one s.bytes z (step i n out)) (calls_preserved s (step i n out ∷ []) h z w)
    (step_shown s h z w f i n out) e
calls_shown s (report file p m ∷ cs) h z w f e =
    calls_shown s cs (trace_one s h (report file p m)) (play_one s.bytes z (report file p m)) (calls_preserved s (report file p m ∷ []) h z w)
    (λ q. let v = f q in (v.0, record { part = v.1.part; bytes = v.1.bytes })) e

pub error_traced : ErrorTraced
unfolding played play_all trace_all has_failed
error_traced s b bytes p cs e =
    let x : Setup = setup_of s b bytes (length p) in
    (calls_shown x cs [] (begun (run_begun s b) p) (played_preserved s b bytes p []) (λ q. impossible cc) e).1
