-- What an exported call leaves, of what the calls in it answered. Over variables, so that no rewriting meets the code.
use mathlib.Core.Path.{◌≡◌, ap, ◌∙◌}
use mathlib.Core.List.{List}
use mathlib.Core.Option.{Option}
use Prim.Native.Nat.{ℕ}
use lib.ListN.{length}
use borrow.Author.Tests.{ne_eqb}
use denote.Ref.{Bor}
use Rattle.error.specs.Writer.{outcome}
use Rattle.lsn.specs.declared.Lsn.{Lsn}
use Rattle.moment.specs.declared.Moment.{Moment}
use Rattle.progress.specs.Files.{file_verdict}
use Rattle.progress.specs.Progress.{cell_position}
use Rattle.schedule.specs.declared.NextStep.{NextStep}
use Rattle.schedule.specs.NextStep.{next_by, next_step_of}
use Rattle.worker.specs.declared.AlreadyOpen.{AlreadyOpen}
use Rattle.wire.specs.Answer.{maybe}
use Rattle.std.specs.Prelude.{Option as Answer}
use Rattle.worker.specs.declared.Input.{Input}
use Rattle.worker.specs.declared.Opened.{Opened}
use Rattle.worker.specs.declared.Queue.{Queue}
use Rattle.worker.specs.declared.Reporting.{Reporting}
use Rattle.worker.specs.declared.Run.{Run}
use Rattle.worker.specs.declared.Settings.{Settings}
use Rattle.worker.specs.declared.Stepped.{Stepped}
use Rattle.worker.specs.Answer.{verdict_number, outcome_by, opened_by, already_open_by, reporting_by, error_part_of}
use Rattle.worker.specs.Events.{said_by}
use Rattle.worker.specs.Run.{cell_in}
use Rattle.worker.specs.Session as O
use Rattle.worker.specs.Session.{open_of, already_open_of, report_of}
use Rattle.worker.specs.Step.{Lent, Outcome}
use Rattle.ffi_words.specs.Step.{clipped, answer_words}
use Rattle.ffi_words.specs.Calls.{standing, step_left, open_left, run_left, confirms_left}
use Rattle.ffi_words.specs.Words.{run_of, words_of}
use Rattle.ffi_answers.specs.Next.{next_words}
use Rattle.ffi_answers.specs.Parts.{error_words}

module _ {r z : Run} (pr : r ≡ z) where
  -- of a call that makes steps, one or several
  pub made : (f : Run → Input → Lent → Outcome) {i j : Input} (l : Lent) (s : Stepped) {p o ws answer : List ℕ}
      → i ≡ j
      → outcome_by s p o ≡ f r i l
      → (ws ≡ words_of s.run) × (run_of ws ≡ s.run)
      → answer ≡ answer_words (verdict_number s.verdict) s.taken s.written (maybe s.waited) (clipped (length p) (said_by s.event))
      → (standing ws, answer, p, o) ≡ step_left (f z j l)
  made f {i} {j} l s {p} {o} pi e pw pa =
      let h : outcome_by s p o ≡ f z j l = e ∙ ap (λ (x : Run). f x i l) pr ∙ ap (λ (x : Input). f z x l) pi in
      rw (← h, pw.1, pw.0, pa)

  pub next : (n : ℕ) {q k : Queue} (x : NextStep) {ws : List ℕ}
      → q ≡ k
      → next_by x ≡ next_step_of r n q
      → ws ≡ next_words (next_by x)
      → ws ≡ next_words (next_step_of z n k)
  next n {q} {k} x pq e pw = pw ∙ ap next_words (e ∙ ap (λ (y : Run). next_step_of y n q) pr ∙ ap (λ (y : Queue). next_step_of z n y) pq)

  pub error_part_lem : (n : ℕ) (x : Answer ℕ) {ws : List ℕ} → maybe x ≡ error_part_of r → ws ≡ error_words (maybe x) n → ws ≡ error_words (error_part_of z) n
  error_part_lem n x e pw = pw ∙ ap (λ (y : Option ℕ). error_words y n) (e ∙ ap error_part_of pr)

-- an answer of a writer, with the output
pub replied : {a b : ℕ} {x : ℕ × ℕ} {o : List ℕ} {y : (ℕ × ℕ) × List ℕ} → (a, b) ≡ x → (x, o) ≡ y → ((a, b), o) ≡ y
replied {o = o} p e = ap (λ (x : ℕ × ℕ). (x, o)) p ∙ e

-- the answer of a lossy text, with its marks and the output
pub shown : {a b m : ℕ} {x : ℕ × ℕ × ℕ} {o : List ℕ} {y : (ℕ × ℕ × ℕ) × List ℕ} → (a, b, m) ≡ x → (x, o) ≡ y → ((a, b, m), o) ≡ y
shown {o = o} p e = ap (λ (x : ℕ × ℕ × ℕ). (x, o)) p ∙ e

-- from what opening gives; refused, the run's words are as they were
module _ (a : Opened) {n v : ℕ} {o : List ℕ} {y : O.Opened} (e : opened_by a o ≡ y) (p : (n, v) ≡ outcome a.written) where
  pub opened : (before : List ℕ) {ws : List ℕ}
      → n ≡ 0
      → (ws ≡ words_of a.run) × (run_of ws ≡ a.run)
      → (n, standing ws, v, o) ≡ open_left before y
  opened before z pw = rw (← e, ← p, z, pw.1, pw.0)

  pub not_opened : {before : List ℕ} → (n ≡ 0 → ⊥) → (n, standing before, v, o) ≡ open_left before y
  not_opened z = rw (← e, ← p, ne_eqb _ _ z)

module _ (a : AlreadyOpen) {n : ℕ} {y : ℕ × Run} (e : already_open_by a ≡ y) (p : n ≡ verdict_number a.verdict) where
  pub already : (before : List ℕ) {ws : List ℕ}
      → n ≡ 0
      → (ws ≡ words_of a.run) × (run_of ws ≡ a.run)
      → (n, standing ws) ≡ run_left before y
  already before z pw = rw (← e, ← p, z, pw.1, pw.0)

  pub not_already : {before : List ℕ} → (n ≡ 0 → ⊥) → (n, standing before) ≡ run_left before y
  not_already z = rw (← e, ← p, ne_eqb _ _ z)

-- from what a report gives; refused, the run's words are as they were
module _ (a : Reporting) {n : ℕ} {r z : Run} (file : ℕ) (p : Lsn) (m : Moment) (pr : r ≡ z) (e : reporting_by a ≡ report_of r file p m)
    (v : n ≡ file_verdict a.verdict) where
  same_report : reporting_by a ≡ report_of z file p m
  same_report = e ∙ ap (λ (y : Run). report_of y file p m) pr

  pub reported : (before : List ℕ) {ws : List ℕ}
      → n ≡ 0
      → (ws ≡ words_of a.run) × (run_of ws ≡ a.run)
      → (n, standing ws) ≡ run_left before (report_of z file p m)
  reported before k pw = rw (← same_report, ← v, k, pw.1, pw.0)

  pub not_reported : (before : List ℕ) → (n ≡ 0 → ⊥) → (n, standing before) ≡ run_left before (report_of z file p m)
  not_reported before k = rw (← same_report, ← v, ne_eqb _ _ k)

-- from four reports, each of the run that the one before it left
module _ (a b c d : Reporting) {r z : Run} (p q s t : Lsn) (m : Moment) (pr : r ≡ z) (ea : reporting_by a ≡ report_of r 0 p m)
    (eb : reporting_by b ≡ report_of a.run 1 q m) (ec : reporting_by c ≡ report_of b.run 2 s m) (ed : reporting_by d ≡ report_of c.run 3 t m) where
  run_by : {x y : ℕ × Run} → x ≡ y → x.1 ≡ y.1
  run_by e = ap (λ (x : ℕ × Run). x.1) e

  all_runs : d.run ≡ (report_of (report_of (report_of (report_of z 0 p m).1 1 q m).1 2 s m).1 3 t m).1
  all_runs =
      let a_run : a.run ≡ (report_of z 0 p m).1 = run_by ea ∙ ap (λ (x : Run). (report_of x 0 p m).1) pr in
      let b_run : b.run ≡ (report_of (report_of z 0 p m).1 1 q m).1 = run_by eb ∙ ap (λ (x : Run). (report_of x 1 q m).1) a_run in
      let c_run : c.run ≡ (report_of (report_of (report_of z 0 p m).1 1 q m).1 2 s m).1 = run_by ec ∙ ap (λ (x : Run). (report_of x 2 s m).1) b_run in
      run_by ed ∙ ap (λ (x : Run). (report_of x 3 t m).1) c_run

  pub all_reported : {n : Lsn} {ws : List ℕ}
      → (ws ≡ words_of d.run) × (run_of ws ≡ d.run)
      → n ≡ cell_position (cell_in d.run)
      → (n.0, standing ws) ≡ confirms_left (report_of (report_of (report_of (report_of z 0 p m).1 1 q m).1 2 s m).1 3 t m).1
  all_reported pw pn = rw (← all_runs, pw.1, pw.0, pn)

-- the settings of their words for the settings that a call was given
module _ {s z : Settings} (ps : s ≡ z) where
  pub open_by : (slot : List ℕ) (names : List (Bor (List ℕ))) (at start : Lsn) (out : List ℕ) {x : O.Opened}
      → x ≡ open_of s slot names at start out
      → x ≡ open_of z slot names at start out
  open_by slot names at start out e = e ∙ ap (λ (y : Settings). open_of y slot names at start out) ps

  pub already_by : (start : Lsn) {x : ℕ × Run} → x ≡ already_open_of s start → x ≡ already_open_of z start
  already_by start e = e ∙ ap (λ (y : Settings). already_open_of y start) ps
