-- What the words of exported calls say is what the trace says. Each call's contract is carried to the run that the words stand for, the run to the
-- trace by condition 3, and a list of calls call by call.
use mathlib.Core.Path.{◌≡◌, refl, sym, ap, ◌∙◌, subst}
use mathlib.Core.Bool.{Bool, true, false}
use mathlib.Core.List.{List, [], ◌∷◌, ◌++◌}
use mathlib.Core.Logic.{inr}
use mathlib.Core.Option.{Option, some, none}
use Prim.Native.Nat.{ℕ, ◌+◌, ◌-◌, ◌<◌}
use native.Mathlib.Omega.{arith}
use borrow.Author.Tests.{ltb-true, ltb-false, lt-ltb, ne_eqb}
use lib.ListN.{length, take, drop, get_or}
use lib.Seq.{take-append_seam}
use lib.Dec.{ltb, eqb}
use Rattle.wire.specs.Bytes.{pick}
use Rattle.wire.proofs.Laws.{by_test, impossible}
use Rattle.error.specs.Writer.{writing}
use Rattle.framing.specs.Read.{fresh}
use Rattle.lsn.specs.declared.Lsn.{Lsn}
use Rattle.moment.specs.declared.Moment.{Moment}
use Rattle.page.specs.declared.Page.{Page}
use Rattle.page.specs.Page.{page_of}
use Rattle.progress.specs.declared.files.Progress.{Progress}
use Rattle.progress.specs.Progress.{cell_position}
use Rattle.progress.proofs.FileLaws.{refused_at, accepted_at}
use Rattle.worker.specs.declared.Input.{Input}
use Rattle.worker.specs.declared.Run.{Run}
use Rattle.worker.specs.declared.Settings.{Settings}
use Rattle.worker.specs.Answer.{lent, error_part_of}
use Rattle.worker.specs.Session.{Opened as OpenedRun, open_of, already_open_of, report_of}
use Rattle.worker.specs.Run.{cell_in, fresh_run, state_number, with_progress}
use Rattle.worker.specs.Step.{Lent, Outcome, step_of}
use Rattle.schedule.specs.NextStep.{next_step_of}
use Rattle.advance.specs.Advance.{advance_of}
use Rattle.advance.specs.Steps.{UpTo}
use Rattle.advance.proofs.Steps.{advance_is_steps}
use Rattle.ffi_words.specs.Calls.{Standing, standing, written, answered, step_left, unless_refused, reported_each}
use Rattle.ffi_words.specs.Step.{queue_of, input_of, clipped, waited_words}
use Rattle.ffi_words.specs.Words.{run_of, words_of, event_words, seven_of, metrics_words, last_status_words}
use Rattle.ffi_answers.specs.Next.{next_words}
use Rattle.ffi_answers.specs.Parts as P
use Rattle.run_page.specs.RunPage.{shown_by}
use Rattle.thm_any_calls.specs.Tests.{onto, lsn}
use Rattle.thm_any_calls.specs.Tests as T
use Rattle.thm_any_calls.specs.Plain.{is_refused_early, plain_of}
use Rattle.thm_any_calls.specs.HandsOn.{NoQueueCloses}
use Rattle.thm_any_calls.specs.Happened.{happened_of}
use Rattle.thm_any_calls.specs.Trace.{Setup, bounds_of, Trace, state_after, taken_by, handed_by, observations_of, confirmed_of}
use Rattle.thm_any_calls.specs.Calls.{Beginning, Call, step, report, Played, stepped, lent_to, play_one, play_all, begun, played, run_begun, setup_of}
use Rattle.thm_any_calls.specs.Table.{limit_by, last_message, response_of}
use Rattle.thm_any_calls.specs.Traced.{trace_one, trace_all, trace_of}
use Rattle.thm_any_calls.specs.Views.{has_failed}
use Rattle.thm_any_calls.proofs.Tests.{put_front}
use Rattle.thm_any_calls.proofs.Beginnings.{run_begun_lem, beginnings_answer}
use Rattle.thm_any_calls.proofs.Invariant.{limit}
use Rattle.thm_any_calls.proofs.Preserved.{Preserved, refused_leaves, step_next, step_preserved, calls_preserved, played_preserved}
use Rattle.thm_any_calls.proofs.Counters.{counters_traced}
use Rattle.thm_any_calls.proofs.Views.{views_traced}
use Rattle.thm_any_calls.proofs.Failed.{error_traced}
use Rattle.thm_any_calls.proofs.HandsOn.{hands_on}
use Rattle.thm_page_shown.specs.PageShown.{page_after}
use Rattle.thm_page_shown.proofs.Shown.{page_traced}
use Rattle.thm_host_calls.specs.Mixed.{mix_all, steps_of, Same}
use Rattle.thm_host_calls.specs.HostWords.{word, flag, Words, settings_by, queue_by, input_by, wait_words}
use Rattle.thm_host_calls.specs.Exported.{HostCall, advance, state, metrics, position, last_sent, error_part, next_step, page, Held, Reply, Stepped, Reported, ReportedEach, Called, CalledAll, none, next, mixed_in, mixed_of, Opened, by_open, already, held_first}
use Rattle.thm_host_calls.specs.Exported as X
use Rattle.thm_host_calls.specs.Told.{steps_in, after, after_all, steps_all, up_to, refused_by, buffer_after, next_in, StepTold, page_left, ReportTold, ErrorTold, Says, Told, OpeningsTold, ExportedTold}
use Rattle.thm_host_calls.proofs.Mixed.{play_append, together}
use Rattle.thm_host_calls.proofs.Reader.{Fine, step_fine}
use Rattle.thm_host_calls.proofs.NextStep.{next_told}
use Rattle.thm_host_calls.proofs.Steps.{steps_named, Tells, one_tells, several_tell}
use Rattle.thm_host_calls.proofs.Words.{flag_is, wait_is, event_told}

-- ---- lists

trace_append : (s : Setup) (h : Trace) (cs ds : List Call) → trace_all s h (cs ++ ds) ≡ trace_all s (trace_all s h cs) ds
unfolding trace_all
trace_append s h [] ds = refl
trace_append s h (c ∷ cs) ds = trace_append s (trace_one s h c) cs ds

-- the trace after exported calls is that of the steps and reports that they stand for
pub after_steps : (s : Setup) (h : Trace) (cs : List HostCall) → after_all s h cs ≡ trace_all s h (steps_all s h cs)
unfolding after_all steps_all trace_all
after_steps s h [] = refl
after_steps s h (c ∷ cs) = after_steps s (after s h c) cs ∙ sym (trace_append s h (steps_in s h c) (steps_all s (after s h c) cs))

-- ---- what a host hands in

input_is : (a : Words) → input_of a.moment a.time a.stop a.queue a.ended ≡ input_by a
unfolding queue_of
input_is a = refl

queue_is : (n : ℕ) → queue_of n ≡ queue_by n
unfolding queue_of
queue_is n = refl

-- ---- the words stand for the run that calls have left

pub record Stands (h : Held) (z : Played) : Type 0 where
  pub run : run_of h.words ≡ z.run
  pub payload : h.payload ≡ z.payload
  pub taken : h.taken ≡ z.taken

module _ (bytes : List ℕ) {h : Held} {z : Played} (s : Stands h z) where
  module _ (f : Run → Input → Lent → Outcome) (a : Words) (n : ℕ) (out : List ℕ) where
    -- what the run answers
    abbrev pub outcome : Outcome
    outcome = f z.run (input_by a) (lent_to bytes z n out)

    same_outcome : f (run_of h.words) (input_of a.moment a.time a.stop a.queue a.ended) (lent (take n (drop h.taken bytes)) h.payload out)
        ≡ outcome
    same_outcome =
        ap (λ (i : Input). f (run_of h.words) i (lent (take n (drop h.taken bytes)) h.payload out)) (input_is a)
        ∙ ap (λ (r : Run). f r (input_by a) (lent (take n (drop h.taken bytes)) h.payload out)) s.run
        ∙ ap (λ (t : ℕ). f z.run (input_by a) (lent (take n (drop t bytes)) h.payload out)) s.taken
        ∙ ap (λ (p : List ℕ). f z.run (input_by a) (lent (take n (drop z.taken bytes)) p out)) s.payload

    module _ {g : Held} {y : Reply} (c : Stepped f bytes h a n out g y) where
      pub all : (standing g.words, y.answer, g.payload, y.out) ≡ step_left outcome
      all = c.ensures ∙ ap step_left same_outcome

      pub stands_on : Stands g (stepped z (input_by a) outcome)
      stands_on =
          let e = all in
          record {
            run = ap (λ (x : Standing × List ℕ × List ℕ × List ℕ). x.0.1) e;
            payload = ap (λ (x : Standing × List ℕ × List ℕ × List ℕ). x.2) e;
            taken =
                c.taken ∙ ap (λ (x : ℕ). x + word y.answer 1) s.taken
                ∙ ap (λ (x : Standing × List ℕ × List ℕ × List ℕ). z.taken + word x.1 1) e;
          }

-- ---- reports

-- a report is refused with 31 where there is no such file, and leaves the run then
report_left : (r : Run) (file : ℕ) (p : Lsn) (m : Moment)
    → ((report_of r file p m).0 ≡ pick (ltb 3 file) 31 0) × (pick (eqb (report_of r file p m).0 0) (report_of r file p m).1 r ≡ (report_of r file p m).1)
unfolding report_of
report_left r file p m =
    by_test (ltb 3 file)
    (λ t.
    let e : report_of r file p m ≡ (31, r) =
    ap (λ (a : ℕ × Progress). (a.0, with_progress a.1 r)) (refused_at r.progress file p m (ltb-true 3 file t)) in
    (ap (λ (a : ℕ × Run). a.0) e ∙ rw t refl, ap (λ (a : ℕ × Run). pick (eqb a.0 0) a.1 r) e ∙ sym (ap (λ (a : ℕ × Run). a.1) e)))
    (λ t.
    let e : (report_of r file p m).0 ≡ 0 = accepted_at r.progress file p m (ltb-false 3 file t) in
    (e ∙ rw t refl, ap (λ (n : ℕ). pick (eqb n 0) (report_of r file p m).1 r) e))

-- what the words of a standing stand for
stands_for : (n : ℕ) (q : Run) (before : List ℕ) → (unless_refused n q before).1 ≡ pick (eqb n 0) q (run_of before)
stands_for n q before = by (eqb n 0)
  where
    by : (b : Bool) → (pick {A = Standing} b (written q) (standing before)).1 ≡ pick b q (run_of before)
    by true = refl
    by false = refl

-- its words, where it is refused
stays : (n : ℕ) (q : Run) (before : List ℕ) → 0 < n → (unless_refused n q before).0 ≡ before
stays n q before k = rw (ne_eqb n 0 (λ e. omega arith)) refl

-- a refused report leaves the words, too
report_told : {b g : Held} {y : Reply} (file p m : ℕ) → Reported b file p m g y → ReportTold file b g y
report_told {b = b} file p m c =
    let r : Run = run_of b.words in
    let q = report_left r file (lsn p) (record { 0 = m }) in
    record {
      refusal = ap (λ (x : ℕ × Standing). x.0) c.ensures ∙ q.0;
      words = λ k.
          let n : (report_of r file (lsn p) (record { 0 = m })).0 ≡ 31 = q.0 ∙ ap (λ (t : Bool). pick t 31 0) (lt-ltb 3 file k) in
          ap (λ (x : ℕ × Standing). x.1.0) c.ensures
          ∙ stays (report_of r file (lsn p) (record { 0 = m })).0 (report_of r file (lsn p) (record { 0 = m })).1 b.words (omega (arith, n));
    }

-- ---- lists of steps, advances and reports

-- a look leaves what the words stand for, a report the payload buffer and the number of bytes taken
same_held : {b g : Held} {z : Played} → g ≡ b → Stands b z → Stands g z
same_held e v = rw e v

reported_stands : (bytes : List ℕ) {b : Held} {z : Played} → Stands b z → (file p m : ℕ) {g : Held} {y : Reply} → Reported b file p m g y
    → Stands g (play_one bytes z (report file (lsn p) (record { 0 = m })))
reported_stands bytes {b = b} v file p m c =
    let e = ap (λ (x : ℕ × Standing). x.1.1) c.ensures in
    let r : Run = run_of b.words in
    let q = report_left r file (lsn p) (record { 0 = m }) in
    record {
      run =
          e ∙ (stands_for (report_of r file (lsn p) (record { 0 = m })).0 (report_of r file (lsn p) (record { 0 = m })).1 b.words
          ∙ (q.1 ∙ ap (λ (x : Run). (report_of x file (lsn p) (record { 0 = m })).1) v.run));
      payload = c.payload ∙ v.payload;
      taken = c.taken ∙ v.taken;
    }

-- the reports of the files 0 to 3
abbrev four_reports : List ℕ → ℕ → List Call
four_reports ps m =
    report 0 (lsn (word ps 0)) (record { 0 = m }) ∷ report 1 (lsn (word ps 1)) (record { 0 = m }) ∷ report 2 (lsn (word ps 2)) (record { 0 = m })
    ∷ report 3 (lsn (word ps 3)) (record { 0 = m }) ∷ []

-- a report of all files leaves the run that they leave
all_stand : (bytes : List ℕ) {b : Held} {z : Played} → Stands b z → (ps : List ℕ) (m : ℕ) {g : Held} {y : Reply} → ReportedEach b ps m g y
    → Stands g (play_all bytes z (four_reports ps m))
unfolding play_all
all_stand bytes v ps m c =
    record {
      run = ap (λ (x : ℕ × Standing). x.1.1) c.ensures ∙ ap (λ (x : Run). reported_each x ps (record { 0 = m })) v.run;
      payload = c.payload ∙ v.payload;
      taken = c.taken ∙ v.taken;
    }

-- a report of one of the four files writes the run's words
one_written : {b g : Held} {y : Reply} (file p m : ℕ) → ltb 3 file ≡ false → Reported b file p m g y
    → standing g.words ≡ written (report_of (run_of b.words) file (lsn p) (record { 0 = m })).1
one_written {b = b} file p m t c =
    let o : ℕ × Run = report_of (run_of b.words) file (lsn p) (record { 0 = m }) in
    let e : o.0 ≡ 0 = (report_left (run_of b.words) file (lsn p) (record { 0 = m })).0 ∙ ap (λ (x : Bool). pick x 31 0) t in
    ap (λ (x : ℕ × Standing). x.1) c.ensures ∙ ap (λ (n : ℕ). unless_refused n o.1 b.words) e

run_in : {w : List ℕ} {r : Run} → standing w ≡ written r → run_of w ≡ r
run_in e = ap (λ (x : Standing). x.1) e

-- so do four of them: the words are those of a report of all files
four_written : (bytes ps : List ℕ) (m : ℕ) {b g : Held}
    → CalledAll bytes b (X.report 0 (word ps 0) m ∷ X.report 1 (word ps 1) m ∷ X.report 2 (word ps 2) m ∷ X.report 3 (word ps 3) m ∷ []) g
    → g.words ≡ words_of (reported_each (run_of b.words) ps (record { 0 = m }))
four_written bytes ps m {b = b} (next _ c (next _ d (next _ e (next _ f none)))) =
    let at : Moment = record { 0 = m } in
    let c_run = run_in (one_written 0 (word ps 0) m refl c) in
    let d_run = run_in (one_written 1 (word ps 1) m refl d) ∙ ap (λ (x : Run). (report_of x 1 (lsn (word ps 1)) at).1) c_run in
    let e_run = run_in (one_written 2 (word ps 2) m refl e) ∙ ap (λ (x : Run). (report_of x 2 (lsn (word ps 2)) at).1) d_run in
    ap (λ (x : Standing). x.0) (one_written 3 (word ps 3) m refl f)
    ∙ ap (λ (x : Run). words_of (report_of x 3 (lsn (word ps 3)) at).1) e_run

all_mixed : (bytes : List ℕ) {b : Held} {z : Played} → Stands b z → (ps : List ℕ) (m : ℕ) {g : Held} {y : Reply} → ReportedEach b ps m g y
    → Stands g (mix_all bytes z (mixed_in (X.report_each ps m)))
unfolding mix_all play_all
all_mixed bytes v ps m c = all_stand bytes v ps m c

-- the words after a list stand for what its steps, advances and reports leave
pub mixed_stand : (bytes : List ℕ) (cs : List HostCall) {b g : Held} {z : Played} → Stands b z → CalledAll bytes b cs g
    → Stands g (mix_all bytes z (mixed_of cs))
unfolding mix_all mixed_of
mixed_stand bytes [] v none = v
mixed_stand bytes (X.step a n out ∷ cs) v (next y c d) = mixed_stand bytes cs (stands_on bytes v step_of a n out c) d
mixed_stand bytes (advance a n out ∷ cs) v (next y c d) = mixed_stand bytes cs (stands_on bytes v advance_of a n out c) d
mixed_stand bytes (X.report file p m ∷ cs) v (next y c d) = mixed_stand bytes cs (reported_stands bytes v file p m c) d
mixed_stand bytes (X.report_each ps m ∷ cs) v (next y c d) = mixed_stand bytes cs (all_mixed bytes v ps m c) d
mixed_stand bytes (state ∷ cs) v (next y c d) = mixed_stand bytes cs (same_held c.0 v) d
mixed_stand bytes (metrics ∷ cs) v (next y c d) = mixed_stand bytes cs (same_held c.0 v) d
mixed_stand bytes (position ∷ cs) v (next y c d) = mixed_stand bytes cs (same_held c.0 v) d
mixed_stand bytes (last_sent ∷ cs) v (next y c d) = mixed_stand bytes cs (same_held c.0 v) d
mixed_stand bytes (error_part n ∷ cs) v (next y c d) = mixed_stand bytes cs (same_held c.0 v) d
mixed_stand bytes (next_step n queue ∷ cs) v (next y c d) = mixed_stand bytes cs (same_held c.0 v) d
mixed_stand bytes (page out ∷ cs) v (next y c d) = mixed_stand bytes cs (same_held c.0 v) d

-- ---- one call

module _ (s : Setup) (h : Trace) (z : Played) (w : Preserved s h z) {b : Held} (v : Stands b z) where
  -- the steps of an advance
  module _ (i : Input) (n : ℕ) (out : List ℕ) where
    abbrev l : Lent
    l = lent_to s.bytes z n out

    abbrev several : UpTo 4 z.run i l (advance_of z.run i l)
    several = advance_is_steps z.run i l

    named : steps_of several.steps n out ≡ up_to 4 s h i n out
    named = steps_named s 4 several.steps h z w n out refl refl several.at_most several.not_fewer

    advance_same : Same (stepped z i (advance_of z.run i l)) (play_all s.bytes z (up_to 4 s h i n out))
    advance_same =
        subst (λ (cs : List Call). Same (stepped z i (advance_of z.run i l)) (play_all s.bytes z cs)) named
        (together s.bytes z n out several.steps refl refl)

    advance_tells : Tells s h (trace_all s h (up_to 4 s h i n out)) out (advance_of z.run i l)
    advance_tells =
        subst (λ (cs : List Call). Tells s h (trace_all s h cs) out (advance_of z.run i l)) named
        (several_tell s several.steps h z w n out refl refl)

  -- the words then stand for the run after the steps that the call stands for
  call_stands : (c : HostCall) (g : Held) (y : Reply) → Called s.bytes b c g y → Stands g (play_all s.bytes z (steps_in s h c))
  unfolding play_all
  call_stands (X.step a n out) g y c = stands_on s.bytes v step_of a n out c
  call_stands (advance a n out) g y c =
      let e = stands_on s.bytes v advance_of a n out c in
      let q = advance_same (input_by a) n out in
      record { run = e.run ∙ q.run; payload = e.payload ∙ q.payload; taken = e.taken ∙ q.taken }
  call_stands (X.report file p m) g y c = reported_stands s.bytes v file p m c
  call_stands (X.report_each ps m) g y c = all_stand s.bytes v ps m c
  call_stands state g y c = same_held c.0 v
  call_stands metrics g y c = same_held c.0 v
  call_stands position g y c = same_held c.0 v
  call_stands last_sent g y c = same_held c.0 v
  call_stands (error_part n) g y c = same_held c.0 v
  call_stands (next_step n queue) g y c = same_held c.0 v
  call_stands (page out) g y c = same_held c.0 v

  -- the answer of a step or an advance
  step_told : (g : Trace) (out : List ℕ) (o : Outcome) (payload : List ℕ) (y : Reply) → Tells s h g out o → payload ≡ o.payload
      → y.answer ≡ answered o → y.out ≡ o.out → StepTold s h g out payload y
  step_told g out o payload y t ep ea eo =
      let seven_of_lem : List ℕ = seven_of (event_words (clipped (length o.payload) o.event)) in
      let rest : List ℕ = get_or (waited_words o.waited) 0 0 ∷ get_or (waited_words o.waited) 1 0 ∷ seven_of_lem in
      let taken_is : o.taken ≡ taken_by g - taken_by h = (let k = t.taken in omega (arith, k)) in
      record {
        sent = t.sent;
        handed = happened_of o.event o.payload;
        seven = seven_of (event_words (clipped (length o.payload) o.event));
        answer =
            ea
            ∙ (ap (λ (k : ℕ). k ∷ o.taken ∷ o.written ∷ rest) t.refusal
            ∙ (ap (λ (k : ℕ). refused_by g ∷ k ∷ o.written ∷ rest) taken_is
            ∙ (ap (λ (k : ℕ). refused_by g ∷ (taken_by g - taken_by h) ∷ k ∷ rest) t.written
            ∙ (ap (λ (k : List ℕ). refused_by g ∷ (taken_by g - taken_by h) ∷ length t.sent ∷ k) (wait_is o.waited seven_of_lem)
            ∙ ap (λ (k : Option ℕ). refused_by g ∷ (taken_by g - taken_by h) ∷ length t.sent ∷ (wait_words k ++ seven_of_lem)) t.waited))));
        sent_now = t.sent_now;
        handed_now = t.handed_now;
        event = rw ep (event_told o.event o.payload);
        written =
            ap (λ (k : List ℕ). take (word k 2) y.out) ea
            ∙ (ap (λ (k : ℕ). take k y.out) t.written
            ∙ (ap (take (length t.sent)) (eo ∙ t.output) ∙ take-append_seam t.sent (drop (length t.sent) out)));
        output = eo ∙ t.output;
      }

-- ---- what next_step needs of a run: its reader remembers no refusal, and is fresh where the payload buffer is too short for any step

record Kept (x : Setup) (z : Played) : Type 0 where
  fine : Fine z.run
  new : x.room < limit x → z.run.reader ≡ fresh

module _ (x : Setup) where
  -- with too short a buffer every step is refused and leaves the run
  short_step : (h : Trace) (z : Played) (w : Preserved x h z) (i : Input) (n : ℕ) (out : List ℕ) → x.room < limit x
      → (step_of z.run i (lent_to x.bytes z n out)).run ≡ z.run
  short_step h z w i n out t =
      ap (λ (o : Outcome). o.run) ((refused_leaves x h z w i n out).left (by (T.is_ended (state_after x.opening h)) refl))
    where
      by : (b : Bool) → T.is_ended (state_after x.opening h) ≡ b → is_refused_early (response_of x h i n (length out)).refusal ≡ true
      by true e = rw e refl
      by false e = rw (e, lt-ltb x.room (limit x) t) refl

  calls_kept : (cs : List Call) (h : Trace) (z : Played) → Preserved x h z → Kept x z → Kept x (play_all x.bytes z cs)
  unfolding play_all report_of trace_all
  calls_kept [] h z w k = k
  calls_kept (step i n out ∷ cs) h z w k =
      calls_kept cs (trace_one x h (step i n out)) (play_one x.bytes z (step i n out)) (step_preserved x h z w i n out)
      (record {
        fine = step_fine i (lent_to x.bytes z n out) z.run k.fine;
        new = λ t. ap (λ (r : Run). r.reader) (short_step h z w i n out t) ∙ k.new t;
      })
  calls_kept (report file p m ∷ cs) h z w k =
      calls_kept cs (trace_one x h (report file p m)) (play_one x.bytes z (report file p m)) (calls_preserved x (report file p m ∷ []) h z w)
      (record { fine = k.fine; new = k.new })

  -- the payload buffer is what the steps stored over its first content
  calls_buffer : (first : List ℕ) (cs : List Call) (h : Trace) (z : Played) → Preserved x h z → z.payload ≡ buffer_after h first
      → (play_all x.bytes z cs).payload ≡ buffer_after (trace_all x h cs) first
  unfolding play_all trace_all buffer_after report_of
  calls_buffer first [] h z w e = e
  calls_buffer first (step i n out ∷ cs) h z w e =
      calls_buffer first cs (trace_one x h (step i n out)) (play_one x.bytes z (step i n out)) (step_preserved x h z w i n out)
      ((step_next x h z w i n out).answers.payload ∙ ap (onto (response_of x h i n (length out)).stored) e)
  calls_buffer first (report file p m ∷ cs) h z w e =
      calls_buffer first cs (trace_one x h (report file p m)) (play_one x.bytes z (report file p m)) (calls_preserved x (report file p m ∷ []) h z w) e

  -- a list of exported calls leaves words that stand for what its steps and reports leave
  calls_stand : (cs : List HostCall) (h : Trace) (z : Played) → Preserved x h z → {b g : Held} → Stands b z → CalledAll x.bytes b cs g
      → Stands g (play_all x.bytes z (steps_all x h cs))
  unfolding steps_all play_all
  calls_stand [] h z w v none = v
  calls_stand (c ∷ cs) h z w {g = g} v (next y e d) =
      let ds : List Call = steps_in x h c in
      subst (Stands g) (sym (play_append x.bytes z ds (steps_all x (after x h c) cs)))
      (calls_stand cs (trace_all x h ds) (play_all x.bytes z ds) (calls_preserved x ds h z w) (call_stands x h z w v c _ y e) d)

-- ---- a page

page_left_lem : (text out : List ℕ) → writing 0 text out ≡ page_left text out
unfolding writing
page_left_lem text out =
    by_test (ltb (length out) (length text)) (λ t. rw t refl)
    (λ t. rw (t, put_front out text) refl)

-- ---- after any list of calls

-- what stands in an option
some_of : {a c : List ℕ} → some a ≡ some c → a ≡ c
some_of e = cc

count : {A : Type 0} → Option A → ℕ
count none = 0
count (some a) = 1

module _ (s : Settings) (b : Beginning) (bytes p : List ℕ) (ds : List Call) {g : Held} (v : Stands g (played s b bytes p ds)) where
  abbrev x : Setup
  x = setup_of s b bytes (length p)

  abbrev t : Trace
  t = trace_of x ds

  abbrev z : Played
  z = played s b bytes p ds

  abbrev r : Run
  r = z.run

  w : Preserved x t z
  w = played_preserved s b bytes p ds

  kept : Kept x z
  unfolding played fresh_run trace_all play_all
  kept =
      calls_kept x ds [] (begun (run_begun s b) p) (played_preserved s b bytes p [])
      (record {
        fine = inr (ap (λ (q : Run). q.reader.refused) (run_begun_lem s b));
        new = λ k. ap (λ (q : Run). q.reader) (run_begun_lem s b);
      })

  -- the last status, by its parts
  status_words : {c d : Bool} {a e : Lsn} {m n : Moment} → c ≡ d → a ≡ e → m ≡ n
      → last_status_words (record { sent = c; position = a; at = m }) ≡ flag d ∷ e.0 ∷ n.0 ∷ []
  status_words {d = d} i j k = rw (i, j, k, flag_is d) refl

  -- the error that ended the run
  error_told : (n : ℕ) (y : Reply) → y.answer ≡ P.error_words (error_part_of r) n → ErrorTold x t g.payload n y
  unfolding count
  error_told n y e = by (has_failed t) refl
    where
      by : (c : Bool) → has_failed t ≡ c → ErrorTold x t g.payload n y
      by true f =
          let k = error_traced s b bytes p ds f in
          record {
            answer = e ∙ (ap (λ (o : Option ℕ). P.error_words o n) k.part ∙ rw f refl);
            bytes = λ q j.
                let same : (last_message (limit_by x) (take (taken_by t) bytes)).1 ≡ q = some_of (rw f at j) in
                ap (λ (u : List ℕ). take (length q) u) v.payload ∙ (ap (λ (u : List ℕ). take (length u) z.payload) (sym same) ∙ (k.bytes ∙ same));
          }
      by false f =
          record {
            answer = e ∙ (ap (λ (o : Option ℕ). P.error_words o n) ((views_traced s b bytes p ds).no_error f) ∙ rw f refl);
            bytes = λ q j. impossible (ap count (rw f at j));
          }

  -- after a report of all files a status would confirm what the trace says
  all_position : (ps : List ℕ) (m : ℕ) (k : Held) (y : Reply) → ReportedEach g ps m k y
      → y.result ≡ (confirmed_of x.start (trace_all x t (four_reports ps m))).0
  unfolding played play_all
  all_position ps m k y c =
      let fs : List Call = four_reports ps m in
      ap (λ (q : ℕ × Standing). q.0) c.ensures
      ∙ (ap (λ (q : Run). (cell_position (cell_in (reported_each q ps (record { 0 = m })))).0) v.run
      ∙ (ap (λ (q : Played). (cell_position (cell_in q.run)).0) (sym (play_append bytes (begun (run_begun s b) p) ds fs))
      ∙ (ap (λ (q : Page). q.position.0) (page_traced s b bytes p (ds ++ fs))
      ∙ ap (λ (h : Trace). (confirmed_of x.start h).0) (trace_append x [] ds fs))))

  says : (c : HostCall) (k : Held) (y : Reply) → Called bytes g c k y → Says x t c g k y
  unfolding trace_all
  says (X.step a n out) k y c =
      let e = all bytes v step_of a n out c in
      step_told x t z w v (trace_one x t (step (input_by a) n out)) out (step_of r (input_by a) (lent_to bytes z n out)) k.payload y
      (one_tells x t z w (input_by a) n out)
      (ap (λ (q : Standing × List ℕ × List ℕ × List ℕ). q.2) e) (ap (λ (q : Standing × List ℕ × List ℕ × List ℕ). q.1) e)
      (ap (λ (q : Standing × List ℕ × List ℕ × List ℕ). q.3) e)
  says (advance a n out) k y c =
      let e = all bytes v advance_of a n out c in
      step_told x t z w v (trace_all x t (up_to 4 x t (input_by a) n out)) out (advance_of r (input_by a) (lent_to bytes z n out)) k.payload y
      (advance_tells x t z w v (input_by a) n out)
      (ap (λ (q : Standing × List ℕ × List ℕ × List ℕ). q.2) e) (ap (λ (q : Standing × List ℕ × List ℕ × List ℕ). q.1) e)
      (ap (λ (q : Standing × List ℕ × List ℕ × List ℕ). q.3) e)
  says (X.report file q m) k y c = report_told file q m c
  says (X.report_each ps m) k y c =
      record {
        position = all_position ps m k y c;
        four = λ f d. ap (λ (q : ℕ × Standing). q.1.0) c.ensures ∙ sym (four_written bytes ps m d);
      }
  says state k y c = c.1 ∙ (ap (λ (q : Run). state_number q.state) v.run ∙ ap state_number w.follows.state)
  says metrics k y c = c.1 ∙ (ap (λ (q : Run). metrics_words q.metrics) v.run ∙ ap metrics_words (counters_traced s b bytes p ds))
  says position k y c = c.1 ∙ (ap (λ (q : Run). (cell_position (cell_in q)).0) v.run ∙ ap (λ (q : Page). q.position.0) (page_traced s b bytes p ds))
  says last_sent k y c =
      let u = views_traced s b bytes p ds in
      c.1 ∙ (ap (λ (q : Run). last_status_words q.status) v.run ∙ status_words u.sent u.sent_position_lem u.sent_at_lem)
  says (error_part n) k y c = error_told n y (c.1 ∙ ap (λ (q : Run). P.error_words (error_part_of q) n) v.run)
  says (next_step n queue) k y c =
      λ room. c.1 ∙ (ap (λ (q : Run). next_words (next_step_of q n (queue_of queue))) v.run
      ∙ (ap (λ (m : ℕ). next_words (next_step_of r m (queue_of queue))) room
      ∙ (next_told x t z w kept.fine kept.new (queue_of queue) ∙ ap (next_in (state_after x.opening t) x t) (queue_is queue))))
  says (page out) k y c =
      c.1 ∙ (ap (λ (q : Run). writing 0 (page_of (shown_by q)) out) v.run
      ∙ (ap (λ (q : Page). writing 0 (page_of q) out) (page_traced s b bytes p ds) ∙ page_left_lem (page_of (page_after x t)) out))

  buffer : z.payload ≡ buffer_after t p
  unfolding played buffer_after trace_all play_all
  buffer = calls_buffer x p ds [] (begun (run_begun s b) p) (played_preserved s b bytes p []) refl

  -- what the words say after the calls
  told_after : (cs : List HostCall) → steps_all x [] cs ≡ ds → Told x cs p g
  told_after cs e =
      let at_end : after_all x [] cs ≡ t = after_steps x [] cs ∙ ap (trace_all x []) e in
      record {
        taken = v.taken ∙ (w.follows.taken ∙ ap taken_by (sym at_end));
        payload = v.payload ∙ (buffer ∙ ap (λ (h : Trace). buffer_after h p) (sym at_end));
        next = λ c k y d. subst (λ (h : Trace). Says x h c g k y) (sym at_end) (says c k y d);
        traced = after_steps x [] cs;
        events = λ n.
            ap handed_by at_end
            ∙ (sym w.follows.events
            ∙ (hands_on s b bytes p ds (subst NoQueueCloses e n)
            ∙ ap (λ (h : Trace). plain_of (bounds_of s) x.opening bytes (observations_of h)) (sym at_end)));
      }

-- ---- openings

openings_told : OpeningsTold
openings_told =
    record {
      opens = λ before settings slot publications asked start out.
          beginnings_answer.opens (settings_by settings) slot publications (lsn asked) (lsn start) out;
      opens_refused = λ before settings slot publications asked start out k.
          let o : OpenedRun = open_of (settings_by settings) slot publications (lsn asked) (lsn start) out in stays o.outcome.0 o.run before k;
      already = λ before settings start. beginnings_answer.is_open (settings_by settings) (lsn start);
      already_refused = λ before settings start k.
          let o : ℕ × Run = already_open_of (settings_by settings) (lsn start) in stays o.0 o.1 before k;
    }

-- the words of an opening stand for the run that it makes
pub opened_run : {settings words : List ℕ} {b : Beginning} → Opened settings words b → run_of words ≡ run_begun (settings_by settings) b
opened_run {settings = settings} (by_open before {slot = slot} {publications = publications} {position = asked} {start = start} {out = out} e) =
    let o : OpenedRun = open_of (settings_by settings) slot publications (lsn asked) (lsn start) out in
    ap (λ (x : ℕ × Standing × ℕ × List ℕ). x.1.1) e
    ∙ (stands_for o.outcome.0 o.run before
    ∙ ap (λ (n : ℕ). pick (eqb n 0) o.run (run_of before)) (sym (ap (λ (x : ℕ × Standing × ℕ × List ℕ). x.0) e)))
opened_run {settings = settings} (already before {start = start} e) =
    let o : ℕ × Run = already_open_of (settings_by settings) (lsn start) in
    ap (λ (x : ℕ × Standing). x.1.1) e
    ∙ (stands_for o.0 o.1 before
    ∙ ap (λ (n : ℕ). pick (eqb n 0) o.1 (run_of before)) (sym (ap (λ (x : ℕ × Standing). x.0) e)))

-- a whole list, from an opening on
first_stand : (s : Settings) (b : Beginning) (bytes p : List ℕ) (cs : List HostCall) {a g : Held} → Stands a (begun (run_begun s b) p)
    → CalledAll bytes a cs g → Stands g (played s b bytes p (steps_all (setup_of s b bytes (length p)) [] cs))
unfolding played trace_all play_all
first_stand s b bytes p cs v c = calls_stand (setup_of s b bytes (length p)) cs [] (begun (run_begun s b) p) (played_preserved s b bytes p []) v c

pub exported_told : ExportedTold
exported_told =
    record {
      openings = openings_told;
      calls = λ settings words bytes p b o cs g c.
          let s : Settings = settings_by settings in
          let x : Setup = setup_of s b bytes (length p) in
          let first : Played = begun (run_begun s b) p in
          let v : Stands (held_first words p) first = record { run = opened_run o; payload = refl; taken = refl } in
          told_after s b bytes p (steps_all x [] cs) (first_stand s b bytes p cs v c) cs refl;
    }
