-- What can be asked of a run, after any list of calls: a step that writes no status leaves the last one, and the last whole message is an `E` only in
-- Handling and after 19 (crate thm_one_call). Condition3 takes the theorem.
use Prim.Native.Nat.{ℕ, ◌<◌}
use native.Mathlib.Omega.{arith}
use mathlib.Core.Bool.{Bool, true, false}
use mathlib.Core.Path.{◌≡◌, refl, ap, ◌∙◌, subst}
use mathlib.Core.List.{List, [], ◌∷◌}
use mathlib.Core.Logic.{◌⊎◌, inl, inr}
use mathlib.Core.Option.{none}
use lib.ListN.{length}
use lib.IntN.{ℤ}
use lib.Dec.{eqb}
use Rattle.wire.specs.Bytes.{pick}
use Rattle.wire.proofs.Laws.{by_test, impossible}
use Rattle.frames.specs.Tag.{is_error}
use Rattle.lsn.specs.declared.Lsn.{Lsn}
use Rattle.moment.specs.declared.Moment.{Moment}
use Rattle.progress.specs.Files.{smallest}
use Rattle.progress.specs.Progress.{cell_position}
use Rattle.worker.specs.declared.State.{State}
use Rattle.worker.specs.declared.State.TheVariants.{Handling}
use Rattle.worker.specs.declared.Input.{Input}
use Rattle.worker.specs.declared.LastStatus.{LastStatus}
use Rattle.worker.specs.declared.Whole.{Whole}
use Rattle.worker.specs.declared.Run.{Run}
use Rattle.worker.specs.Answer.{error_part_of}
use Rattle.worker.specs.Run.{cell_in, last_status, fresh_run}
use Rattle.worker.specs.Session.{report_of}
use Rattle.worker.specs.Step.{Lent, Outcome, is_ended, step_of}
use Rattle.thm_one_call.specs.Effects.{Before, before}
use Rattle.thm_one_call.specs.Effects as W
use Rattle.thm_one_call.proofs.Effects.{step_effects, error_refused, ended_refused}
use Rattle.thm_any_calls.specs.Trace.{Setup, Trace, Response, a_step, a_report, Writing, nothing, done, status, is_status, state_after, confirmed_of}
use Rattle.thm_any_calls.specs.Trace.{has_sent, sent_at, sent_position}
use Rattle.thm_any_calls.specs.Calls.{Call, step, report, Played, is_opening, start_of, lent_to, play_one, play_all, begun, played, setup_of}
use Rattle.thm_any_calls.specs.Table.{response_of}
use Rattle.thm_any_calls.specs.Traced.{written_by, trace_one, trace_all, trace_of}
use Rattle.thm_any_calls.specs.Views.{has_failed, ViewsTraced}
use Rattle.thm_any_calls.proofs.Beginnings.{first_state, run_begun_lem}
use Rattle.thm_any_calls.proofs.Facts.{Facts, facts_by, facts_of, agree_now}
use Rattle.thm_any_calls.proofs.Preserved.{Preserved, step_next, calls_preserved, played_preserved}

-- ---- one step

-- the last status after a step, by how many bytes it wrote
data Sent (b : Before) (o : Outcome) : Type 0 where
  unsent : o.written < 39 → o.run.status ≡ b.status → Sent b o
  sent : o.written ≡ 39 → o.run.status ≡ last_status true (smallest b.files) b.moment → Sent b o

sent_by : {b : Before} {i : Input} {l : Lent} {o : Outcome} → W.Writing b i l o → Sent b o
sent_by (W.nothing a c d) = unsent (omega (arith, a)) d
sent_by (W.done a c d) = unsent (omega (arith, a)) d
sent_by (W.status reply a c d) = sent a d

-- an `E` is the last whole message only in Handling, where a step is refused with 19
abbrev Clean : Run → Type 0
Clean r = (r.state ≡ Handling) ⊎ (is_error r.whole.tag ≡ false)

abbrev Fine : Outcome → Type 0
Fine o = (o.refusal ≡ 19) ⊎ Clean o.run

step_fine : (r : Run) (i : Input) (l : Lent) → Clean r → Fine (step_of r i l)
step_fine r i l h = by h
  where
    by_message : {n : ℕ} {q : Run} → is_error r.whole.tag ≡ false → W.LastMessage r.whole n q → (n ≡ 19) ⊎ Clean q
    by_message t (W.same e) = inr (inr (ap (λ (x : Whole). is_error x.tag) e ∙ t))
    by_message t (W.handles e) = inr (inl e)
    by_message t (W.fails e) = inl e

    refused : ((step_of r i l).refusal ≡ 19) ⊎ ((step_of r i l).run.state ≡ Handling) → Fine (step_of r i l)
    refused (inl e) = inl e
    refused (inr e) = inr (inl e)

    by : Clean r → Fine (step_of r i l)
    by (inl e) =
        by_test (is_error r.whole.tag) (λ t. refused (error_refused r i l e t)) (λ t. by_message t (step_effects r i l).message)
    by (inr t) = by_message t (step_effects r i l).message

-- ---- any list of calls

record Now (s : Setup) (h : Trace) (r : Run) : Type 0 where
  sent : r.status.sent ≡ has_sent h
  sent_position_lem : r.status.position ≡ sent_position s.start h
  sent_at_lem : r.status.at ≡ sent_at h
  clean : has_failed h ≡ false → Clean r

-- how many bytes a writing has
data Counted (w : Writing) (n : ℕ) : Type 0 where
  a_status : is_status w ≡ true → n ≡ 39 → Counted w n
  no_status : is_status w ≡ false → n < 39 → Counted w n

counted : (w : Writing) (position : Lsn) (time : ℤ) (out : List ℕ) (n : ℕ) (q : List ℕ) → (n, q) ≡ written_by w position time out → Counted w n
counted nothing position time out n q e = let k : ◌≡◌ {A = ℕ} n 0 = ap (λ (x : ℕ × List ℕ). x.0) e in no_status refl (omega arith)
counted done position time out n q e = let k : ◌≡◌ {A = ℕ} n 5 = ap (λ (x : ℕ × List ℕ). x.0) e in no_status refl (omega arith)
counted (status reply) position time out n q e = a_status refl (ap (λ (x : ℕ × List ℕ). x.0) e)

-- what is clean stays so, unless the step is refused with 19
cleaned : (h : Trace) (r : Run) (y : Response) (o : Outcome) → (has_failed h ≡ false → Clean r) → (Clean r → Fine o) → o.refusal ≡ y.refusal
    → (t : Bool) → eqb y.refusal 19 ≡ t → pick t true (has_failed h) ≡ false → Clean o.run
cleaned h r y o v f g true k z = impossible cc
cleaned h r y o v f g false k z = by (f (v z))
  where
    by : Fine o → Clean o.run
    by (inl q) = let j : eqb y.refusal 19 ≡ true = rw (← g, q) refl in impossible cc
    by (inr q) = q

-- one step more, over any response with this writing and refusal
step_now : (s : Setup) (h : Trace) (r : Run) (i : Input) (from : State) (y : Response) (o : Outcome)
    → Now s h r → (o.written ≡ 39 → cell_position (cell_in r) ≡ confirmed_of s.start h)
    → Sent (before i.moment r.metrics.last_wal_end r) o → Counted y.writing o.written
    → (Clean r → Fine o) → o.refusal ≡ y.refusal → Now s (a_step i from y ∷ h) o.run
unfolding has_sent sent_position sent_at has_failed
step_now s h r i from y o v p (unsent a e) (a_status b c) f g = absurd (omega arith)
step_now s h r i from y o v p (sent a e) (no_status b c) f g = absurd (omega arith)
step_now s h r i from y o v p (unsent a e) (no_status b c) f g =
    record {
      sent = rw b (ap (λ (x : LastStatus). x.sent) e ∙ v.sent);
      sent_position_lem = rw b (ap (λ (x : LastStatus). x.position) e ∙ v.sent_position_lem);
      sent_at_lem = rw b (ap (λ (x : LastStatus). x.at) e ∙ v.sent_at_lem);
      clean = cleaned h r y o v.clean f g (eqb y.refusal 19) refl;
    }
step_now s h r i from y o v p (sent a e) (a_status b c) f g =
    record {
      sent = rw b (ap (λ (x : LastStatus). x.sent) e);
      sent_position_lem = rw b (ap (λ (x : LastStatus). x.position) e ∙ p a);
      sent_at_lem = rw b (ap (λ (x : LastStatus). x.at) e);
      clean = cleaned h r y o v.clean f g (eqb y.refusal 19) refl;
    }

-- a report touches nothing of this
report_now : (s : Setup) (h : Trace) (r : Run) (file : ℕ) (p : Lsn) (m : Moment) → Now s h r → Now s (a_report file p m ∷ h) (report_of r file p m).1
unfolding report_of has_sent sent_position sent_at has_failed
report_now s h r file p m v = record { sent = v.sent; sent_position_lem = v.sent_position_lem; sent_at_lem = v.sent_at_lem; clean = v.clean }

-- a step that writes a status finds the run not ended, and what it remembers is what the trace says
position_is : (s : Setup) (h : Trace) (z : Played) → Preserved s h z → (i : Input) (l : Lent) → (step_of z.run i l).written ≡ 39
    → cell_position (cell_in z.run) ≡ confirmed_of s.start h
unfolding facts_of
position_is s h z w i l e =
    by_test (is_ended z.run.state)
    (λ t. let k : (step_of z.run i l).written ≡ 0 = ap (λ (o : Outcome). o.written) (ended_refused z.run i l t) in absurd (omega arith))
    (λ t. ap (λ (f : Facts). f.reports.applied) (agree_now z.run.state (facts_by z.run) (facts_of s h) t w.agrees))

calls_now : (s : Setup) (cs : List Call) (h : Trace) (z : Played) → Preserved s h z → Now s h z.run
    → Now s (trace_all s h cs) (play_all s.bytes z cs).run
unfolding play_all trace_all
calls_now s [] h z w v = v
calls_now s (step i n out ∷ cs) h z w v =
    let l : Lent = lent_to s.bytes z n out in
    let a = (step_next s h z w i n out).answers in
    let c : Counted (response_of s h i n (length out)).writing (step_of z.run i l).written = counted _ _ _ _ _ _ a.output in
    calls_now s cs (trace_one s h (step i n out)) (play_one s.bytes z (step i n out)) (calls_preserved s (step i n out ∷ []) h z w)
    (step_now s h z.run i (state_after s.opening h) (response_of s h i n (length out)) (step_of z.run i l) v (position_is s h z w i l)
    (sent_by (step_effects z.run i l).writes) c (step_fine z.run i l) a.refusal)
calls_now s (report file p m ∷ cs) h z w v =
    calls_now s cs (trace_one s h (report file p m)) (play_one s.bytes z (report file p m)) (calls_preserved s (report file p m ∷ []) h z w)
    (report_now s h z.run file p m v)

-- no error is shown
none_shown : (r : Run) → Clean r → error_part_of r ≡ none
none_shown r (inl e) = rw e refl
none_shown r (inr t) = by_test (is_ended r.state) (λ a. rw (a, t) refl) (λ a. rw a refl)

first_now : (s : Setup) (x : State) → Now s [] (fresh_run s.settings x s.start)
unfolding fresh_run has_sent sent_position sent_at
first_now s x = record { sent = refl; sent_position_lem = refl; sent_at_lem = refl; clean = λ z. inr refl }

pub views_traced : ViewsTraced
unfolding played play_all trace_all
views_traced s b bytes p cs =
    let x : Setup = setup_of s b bytes (length p) in
    let first : Played = begun (fresh_run s (first_state (is_opening b)) (start_of b)) p in
    let w : Preserved x [] first = subst (λ (r : Run). Preserved x [] (begun r p)) (run_begun_lem s b) (played_preserved s b bytes p []) in
    let v : Now x (trace_of x cs) (play_all bytes first cs).run = calls_now x cs [] first w (first_now x (first_state (is_opening b))) in
    rw (run_begun_lem s b)
    (record {
      sent = v.sent;
      sent_position_lem = v.sent_position_lem;
      sent_at_lem = v.sent_at_lem;
      no_error = λ z. none_shown (play_all bytes first cs).run (v.clean z);
    })
