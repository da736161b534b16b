-- What each exported call over a run's words leaves: one definition for each call, which its contract in `ffi_export` and the theorems about lists of
-- such calls both use. Beside the run's words stands the run that they stand for, so that calls over words are calls over runs. SCOPE 9.2.
use Rattle.std.specs.Prelude.{ℕ, Bool, List, length, get_or, ℤ, eqb}
use Rattle.std.specs.Borrow.{Bor}
use Rattle.wire.specs.Bytes.{pick}
use Rattle.moment.specs.declared.Moment.{Moment}
use Rattle.progress.specs.Progress.{cell_position}
use Rattle.worker.specs.declared.Input.{Input}
use Rattle.worker.specs.declared.Run.{Run}
use Rattle.worker.specs.Session.{Opened, open_of, already_open_of, report_of}
use Rattle.worker.specs.Run.{state_number, lsn, cell_in}
use Rattle.worker.specs.Step.{Lent, Outcome}
use Rattle.ffi_words.specs.Step.{input_of, clipped, answer_words}
use Rattle.ffi_words.specs.Words.{moment, settings_of, metrics_words, last_status_words, run_of, words_of}

-- words, and the run that they stand for
abbrev pub Standing : Type 0
Standing = List ℕ × Run

-- any words stand for some run
abbrev pub standing : List ℕ → Standing
standing w = (w, run_of w)

-- the words of a run stand for it
abbrev pub written : Run → Standing
written r = (words_of r, r)

-- a run that a call made, or the words as they were where it was refused
abbrev pub unless_refused : ℕ → Run → List ℕ → Standing
unless_refused refusal r before = pick (eqb refusal 0) (written r) (standing before)

-- ---- calls that change a run

-- the words of a step's answer; the event's parts lie in the payload buffer
abbrev pub answered : Outcome → List ℕ
answered o = answer_words o.refusal o.taken o.written o.waited (clipped (length o.payload) o.event)

-- run, answer, payload buffer and output after an outcome
abbrev pub step_left : Outcome → Standing × List ℕ × List ℕ × List ℕ
step_left o = (written o.run, answered o, o.payload, o.out)

-- `rufflesquash_step` and `rufflesquash_advance`, which make one step or several, with a moment, the client's time, whether to stop, the queue's word
-- and whether the input has ended
abbrev pub step_call : (Run → Input → Lent → Outcome) → List ℕ → ℕ → ℤ → Bool → ℕ → Bool → Lent → Standing × List ℕ × List ℕ × List ℕ
step_call f w m time stop queue ended l = step_left (f (run_of w) (input_of m time stop queue ended) l)

-- refusal, run, bytes written and output after an opening
abbrev pub open_left : List ℕ → Opened → ℕ × Standing × ℕ × List ℕ
open_left before o = (o.outcome.0, unless_refused o.outcome.0 o.run before, o.outcome.1, o.out)

-- `rufflesquash_open`
abbrev pub open_call : List ℕ → List ℕ → List ℕ → List (Bor (List ℕ)) → ℕ → ℕ → List ℕ → ℕ × Standing × ℕ × List ℕ
open_call before settings slot publications position start out =
    open_left before (open_of (settings_of settings) slot publications (lsn position) (lsn start) out)

-- refusal and run after a call that can do no more than refuse
abbrev pub run_left : List ℕ → ℕ × Run → ℕ × Standing
run_left before o = (o.0, unless_refused o.0 o.1 before)

-- `rufflesquash_already_open`
abbrev pub already_open_call : List ℕ → List ℕ → ℕ → ℕ × Standing
already_open_call before settings start = run_left before (already_open_of (settings_of settings) (lsn start))

-- `rufflesquash_report`
abbrev pub report_call : List ℕ → ℕ → ℕ → ℕ → ℕ × Standing
report_call w file p m = run_left w (report_of (run_of w) file (lsn p) (moment m))

-- the run after reports of the files 0 to 3, in this order and at one moment; none of them is refused
abbrev pub reported_each : Run → List ℕ → Moment → Run
reported_each r ps m =
    (report_of
    (report_of (report_of (report_of r 0 (lsn (get_or ps 0 0)) m).1 1 (lsn (get_or ps 1 0)) m).1 2 (lsn (get_or ps 2 0)) m).1 3 (lsn (get_or ps 3 0)) m
    ).1

-- what a status would confirm after a call, and the run
abbrev pub confirms_left : Run → ℕ × Standing
confirms_left r = ((cell_position (cell_in r)).0, written r)

-- `rufflesquash_report_each`, of four positions
abbrev pub report_each_call : List ℕ → List ℕ → ℕ → ℕ × Standing
report_each_call w ps m = confirms_left (reported_each (run_of w) ps (moment m))

-- ---- calls that look at a run

-- `rufflesquash_state`
abbrev pub state_call : List ℕ → ℕ
state_call w = state_number (run_of w).state

-- `rufflesquash_metrics`
abbrev pub metrics_call : List ℕ → List ℕ
metrics_call w = metrics_words (run_of w).metrics

-- `rufflesquash_position`
abbrev pub position_call : List ℕ → ℕ
position_call w = (cell_position (cell_in (run_of w))).0

-- `rufflesquash_last_sent`
abbrev pub last_sent_call : List ℕ → List ℕ
last_sent_call w = last_status_words (run_of w).status
