-- What the answers of the code say: a refusal by its number, an enum by the values of its cases. SCOPE 1.4, 5.5.
use Rattle.std.specs.Prelude.{ℕ, List, Result, Ok, Err}
use Rattle.std.proofs.Math.Option.{Option, some, none}
use Rattle.wire.specs.Answer.{maybe}
use Rattle.wire.specs.Bytes.{pick}
use Rattle.error.specs.Refusal.{number_of}
use Rattle.error.specs.declared.Refusal.{Refusal}
use Rattle.error.specs.Writer.{outcome}
use Rattle.progress.specs.Files.{file_verdict}
use Rattle.frames.specs.Tag.{is_error}
use Rattle.worker.specs.declared.Run.{Run}
use Rattle.worker.specs.declared.Stepped.{Stepped}
use Rattle.worker.specs.declared.Opened.{Opened}
use Rattle.worker.specs.declared.AlreadyOpen.{AlreadyOpen}
use Rattle.worker.specs.declared.Reporting.{Reporting}
use Rattle.worker.specs.Events as E
use Rattle.worker.specs.Session as O
use Rattle.worker.specs.Step.{Outcome, Lent, is_ended}

-- the refusal's number, 0 for none
abbrev pub verdict_number : Result (Unit {0}) Refusal → ℕ
verdict_number (Ok tt) = 0
verdict_number (Err r) = number_of r

-- what a step is lent: unread bytes, payload buffer, output
abbrev pub lent : List ℕ → List ℕ → List ℕ → Lent
lent u p o = record { unread = u; payload = p; out = o }

-- an answer with the payload buffer and the output that it leaves
abbrev pub outcome_by : Stepped → List ℕ → List ℕ → Outcome
outcome_by s p o =
    record {
      run = s.run;
      refusal = verdict_number s.verdict;
      taken = s.taken;
      event = E.said_by s.event;
      written = s.written;
      waited = maybe s.waited;
      payload = p;
      out = o;
    }

-- an answer of opening with the output that it leaves
abbrev pub opened_by : Opened → List ℕ → O.Opened
opened_by a out = record { run = a.run; outcome = outcome a.written; out = out }

abbrev pub already_open_by : AlreadyOpen → ℕ × Run
already_open_by a = (verdict_number a.verdict, a.run)

abbrev pub reporting_by : Reporting → ℕ × Run
reporting_by a = (file_verdict a.verdict, a.run)

-- the ErrorResponse that ended a run with 19: the length of its payload at the payload buffer's front. SCOPE 5.8; 01, "Where each call turns back"
abbrev pub error_part_of : Run → Option ℕ
error_part_of r = pick (is_ended r.state) (pick (is_error r.whole.tag) (some r.whole.len) none) none
