-- Condition 3, refused calls: a step refused with 2 to 5 leaves the run as it was, every field, and both buffers; it takes, writes and hands on
-- nothing. A report refused with 31 leaves the run as it was. Opening and already open: a refused call makes no run (Beginnings). SCOPE 8.9; 01,
-- "Where each call turns back"; 02, wish 5.
use Rattle.std.specs.Prelude.{◌≡◌, true, List, ℕ, ◌≤◌, ◌<◌, length}
use Rattle.std.proofs.Math.Option.{none}
use Rattle.lsn.specs.declared.Lsn.{Lsn}
use Rattle.moment.specs.declared.Moment.{Moment}
use Rattle.worker.specs.declared.Input.{Input}
use Rattle.worker.specs.declared.Run.{Run}
use Rattle.worker.specs.declared.Settings.{Settings}
use Rattle.worker.specs.Events as E
use Rattle.worker.specs.Session.{report_of}
use Rattle.worker.specs.Step.{Outcome, Lent, step_of}
use Rattle.thm_any_calls.specs.Plain.{is_refused_early}
use Rattle.thm_any_calls.specs.Trace.{Setup}
use Rattle.thm_any_calls.specs.Calls.{Beginning, Call, Played, played, lent_to, setup_of}
use Rattle.thm_any_calls.specs.Table.{response_of}
use Rattle.thm_any_calls.specs.Traced.{trace_of}

-- everything is as it was
abbrev pub unchanged : ℕ → Run → Lent → Outcome
unchanged n r l =
    record { run = r; refusal = n; taken = 0; event = E.nothing; written = 0; waited = none; payload = l.payload; out = l.out }

-- after any list of calls, a step to which the table responds with such a refusal
abbrev pub RefusedLeaves : Type 0
RefusedLeaves =
    (s : Settings) (b : Beginning) (bytes payload : List ℕ) (cs : List Call) (i : Input) (n : ℕ) (out : List ℕ)
    → let x : Setup = setup_of s b bytes (length payload) in
    let z : Played = played s b bytes payload cs in
    let l : Lent = lent_to bytes z n out in
    let k : ℕ = (response_of x (trace_of x cs) i n (length out)).refusal in
    is_refused_early k ≡ true → step_of z.run i l ≡ unchanged k z.run l

-- after any list of calls, also of an ended run, a report of any number and position
pub record Reports (r : Run) : Type 0 where
  pub refused : (file : ℕ) (position : Lsn) (moment : Moment) → 3 < file → report_of r file position moment ≡ (31, r)
  pub accepted : (file : ℕ) (position : Lsn) (moment : Moment) → file ≤ 3 → (report_of r file position moment).0 ≡ 0

-- so of each run that a list of calls leaves
abbrev pub ReportsAnswer : Type 0
ReportsAnswer = (s : Settings) (b : Beginning) (bytes payload : List ℕ) (cs : List Call) → Reports (played s b bytes payload cs).run
