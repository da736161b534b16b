-- Opening a run, a run that is already open, and a report. SCOPE 5.1, 5.2, 5.3, 5.7; 01, "Events and confirmations".
use Rattle.std.specs.Prelude.{ℕ, ◌+◌, Bool, true, List, length, nat_lt}
use Rattle.std.specs.Borrow.{Bor}
use Rattle.wire.specs.Bytes.{pick}
use Rattle.error.specs.Inputs.{total}
use Rattle.error.specs.Writer.{writing}
use Rattle.frontend.specs.Frontend.{query}
use Rattle.lsn.specs.declared.Lsn.{Lsn}
use Rattle.moment.specs.declared.Moment.{Moment}
use Rattle.progress.specs.declared.files.Progress.{Progress}
use Rattle.progress.specs.Files.{filed_of}
use Rattle.request.specs.Request.{start_replication}
use Rattle.worker.specs.declared.Settings.{Settings}
use Rattle.worker.specs.declared.State.TheVariants.{Opening, Turn}
use Rattle.worker.specs.declared.Run.{Run}
use Rattle.worker.specs.Run.{fresh_run, with_progress}

-- 1: an interval is at most a day
abbrev pub is_too_long : ℕ → Bool
is_too_long interval = nat_lt 86400000000000 interval

abbrev pub bad_interval : Settings → Bool
bad_interval s = pick (is_too_long s.status_interval) true (is_too_long s.idle_wakeup_interval)

-- the run, which counts only where the refusal's number is 0; that number and how many bytes were written; the output
pub record Opened : Type 0 where
  pub run : Run
  pub outcome : ℕ × ℕ
  pub out : List ℕ

-- the query of `start_replication` is written, from the query position; confirmations begin at the start. Refusals in their order: 1, 25, 4
unfoldable pub open_of : Settings → List ℕ → List (Bor (List ℕ)) → Lsn → Lsn → List ℕ → Opened
open_of s slot publications position start out =
    let w : (ℕ × ℕ) × List ℕ = writing (length slot + total publications) (query (start_replication s.binary slot publications position)) out in
    pick (bad_interval s) (record { run = fresh_run s Opening start; outcome = (1, 0); out = out })
    (record { run = fresh_run s Opening start; outcome = w.0; out = w.1 })

-- the run begins in Turn, and no query is written
unfoldable pub already_open_of : Settings → Lsn → ℕ × Run
already_open_of s start = (pick (bad_interval s) 1 0, fresh_run s Turn start)

-- a file's report: 31, or the run's progress after it; nothing else changes
unfoldable pub report_of : Run → ℕ → Lsn → Moment → ℕ × Run
report_of r file position moment =
    let a : ℕ × Progress = filed_of r.progress file position moment in (a.0, with_progress a.1 r)
