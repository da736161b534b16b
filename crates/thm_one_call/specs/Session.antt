-- Opening a run, a run that is already open, and a file's report, apart from their definitions: where each argument goes, what is refused with 1 and
-- with 31, and what a report changes. SCOPE 5.1, 5.2, 5.3, 5.7; 01, "Events and confirmations"; 02, wish 5.
use Rattle.std.specs.Prelude.{ℕ, ◌+◌, ◌*◌, ◌≤◌, ◌<◌, min, max, true, false, List, [], ◌∷◌, ◌⊎◌, ◌≡◌, length, get_or}
use Rattle.std.specs.Borrow.{Bor}
use Rattle.error.specs.Inputs.{total}
use Rattle.error.specs.Writer.{writing}
use Rattle.frontend.specs.Frontend.{query}
use Rattle.lsn.specs.declared.Lsn.{Lsn}
use Rattle.moment.specs.declared.Moment.{Moment}
use Rattle.progress.specs.declared.files.Files.{Files}
use Rattle.progress.specs.Progress.{cell_position, cell_signal, cell_pending, cell_timing, raise_of}
use Rattle.progress.specs.Files.{files}
use Rattle.progress.specs.FileCalls.{NamesAll}
use Rattle.request.specs.Request.{start_replication}
use Rattle.worker.specs.declared.Run.{Run}
use Rattle.worker.specs.declared.Settings.{Settings}
use Rattle.worker.specs.Session.{Opened, open_of, already_open_of, report_of}
use Rattle.worker.specs.Run.{state_number, cell_in, with_progress}

-- a day in nanoseconds: hours, minutes, seconds
abbrev pub day : ℕ
day = 24 * 60 * 60 * 1000000000

-- an interval that is longer than a day
abbrev pub TooLong : Settings → Type 0
TooLong s = (day < s.status_interval) ⊎ (day < s.idle_wakeup_interval)

-- ---- a run that begins

-- the run has the settings, is in the state, and would confirm the start, at which all four files are; nothing is signalled, pending, sent, counted
-- or read
pub record Begins (s : Settings) (state : ℕ) (start : Lsn) (r : Run) : Type 0 where
  pub settings : r.settings ≡ s
  pub in_state : state_number r.state ≡ state
  pub confirms : cell_position (cell_in r) ≡ start
  pub all_files : r.progress.files ≡ files start start start start
  pub not_signalled : cell_signal (cell_in r) ≡ false
  pub none_pending : (cell_pending (cell_in r)).0 ≡ 0
  pub timing : cell_timing (cell_in r) ≡ s.timing
  pub none_sent : r.status.sent ≡ false
  pub none_forwarded : r.metrics.events_forwarded ≡ 0
  pub none_confirmed : r.metrics.feedback_sent ≡ 0
  pub none_read : r.reader.filled ≡ 0
  pub not_refused : r.reader.refused ≡ false

-- `open` begins in Opening, and would confirm the start, not the position that its query names
abbrev pub OpenBegins : Type 0
OpenBegins =
    (s : Settings) (slot : List ℕ) (publications : List (Bor (List ℕ))) (position start : Lsn) (out : List ℕ)
    → Begins s 0 start (open_of s slot publications position start out).run

-- `already_open` begins in Turn
abbrev pub AlreadyOpenBegins : Type 0
AlreadyOpenBegins = (s : Settings) (start : Lsn) → Begins s 1 start (already_open_of s start).1

-- ---- refusals

-- `open` with an interval that is too long is refused with 1, whatever else it is lent, and writes nothing
abbrev pub OpenTooLong : Type 0
OpenTooLong =
    (s : Settings) (slot : List ℕ) (publications : List (Bor (List ℕ))) (position start : Lsn) (out : List ℕ) → TooLong s
    → let o : Opened = open_of s slot publications position start out in (o.outcome ≡ (1, 0)) × (o.out ≡ out)

-- with intervals that are not too long it answers and writes as the writer of the query at the query position does: 25, 4 or the query
abbrev pub OpenWrites : Type 0
OpenWrites =
    (s : Settings) (slot : List ℕ) (publications : List (Bor (List ℕ))) (position start : Lsn) (out : List ℕ)
    → s.status_interval ≤ day → s.idle_wakeup_interval ≤ day
    → let o : Opened = open_of s slot publications position start out in
    (o.outcome, o.out) ≡ writing (length slot + total publications) (query (start_replication s.binary slot publications position)) out

-- `already_open` is refused with 1 alone
abbrev pub AlreadyOpenTooLong : Type 0
AlreadyOpenTooLong = (s : Settings) (start : Lsn) → TooLong s → (already_open_of s start).0 ≡ 1

abbrev pub AlreadyOpenAccepted : Type 0
AlreadyOpenAccepted =
    (s : Settings) (start : Lsn) → s.status_interval ≤ day → s.idle_wakeup_interval ≤ day → (already_open_of s start).0 ≡ 0

-- ---- a report

-- the position of a file by its number
abbrev pub file_at : ℕ → Run → ℕ
file_at n r = let f : Files = r.progress.files in get_or (f.zero.0 ∷ f.one.0 ∷ f.two.0 ∷ f.three.0 ∷ []) n 0

-- a number above 3 is refused with 31, and the run is as it was; else the file goes to the larger of its position and the reported one, and no other
-- file moves. What a status would confirm is the smallest of the four. Where that rises it is signalled, and with timing on the moment is pending
-- where none is; where it does not rise the cell stays. Nothing else of the run changes
pub record Reported (r : Run) (file : ℕ) (position : Lsn) (moment : Moment) (after : Run) : Type 0 where
  pub refused : 3 < file → report_of r file position moment ≡ (31, r)
  pub accepted : file ≤ 3 → (report_of r file position moment).0 ≡ 0
  pub larger : file ≤ 3 → file_at file after ≡ max (file_at file r) position.0
  pub others : (n : ℕ) → n ≤ 3 → (n ≡ file → ⊥) → file_at n after ≡ file_at n r
  pub smallest : (cell_position (cell_in after)).0 ≡ min (min (file_at 0 after) (file_at 1 after)) (min (file_at 2 after) (file_at 3 after))
  pub signals : (cell_position (cell_in r)).0 < (cell_position (cell_in after)).0 → cell_signal (cell_in after) ≡ true
  pub stores : (cell_position (cell_in r)).0 < (cell_position (cell_in after)).0 → cell_timing (cell_in r) ≡ true → (cell_pending (cell_in r)).0 ≡ 0
      → cell_pending (cell_in after) ≡ moment
  pub stays : (cell_position (cell_in after)).0 ≤ (cell_position (cell_in r)).0 → cell_in after ≡ cell_in r
  pub else_same : after ≡ with_progress after.progress r

abbrev pub ReportRaises : Type 0
ReportRaises = (r : Run) (file : ℕ) (position : Lsn) (moment : Moment) → Reported r file position moment (report_of r file position moment).1

-- ---- one report for all four files

-- reports of one position and moment for one file after the other
unfoldable pub reports_on : List ℕ → Lsn → Moment → Run → Run
reports_on [] position moment r = r
reports_on (file ∷ ns) position moment r = (report_of (reports_on ns position moment r) file position moment).1

-- four reports of one position and moment, one a file, in any order, are the report that a run with one position for all has: the cell is raised
-- once, and nothing else of the run changes. So is any list of such reports that names every file. This holds of every run, reachable or not
abbrev pub FormerReport : Type 0
FormerReport =
    (ns : List ℕ) → NamesAll ns → (position : Lsn) (moment : Moment) (r : Run)
    → let after : Run = reports_on ns position moment r in
    (cell_in after ≡ (raise_of (cell_in r) position moment).cell) × (after ≡ with_progress after.progress r)

-- ---- all of it

pub record Session : Type 0 where
  pub open_begins : OpenBegins
  pub already_open_begins : AlreadyOpenBegins
  pub open_too_long : OpenTooLong
  pub open_writes : OpenWrites
  pub already_open_too_long : AlreadyOpenTooLong
  pub already_open_accepted : AlreadyOpenAccepted
  pub report_raises : ReportRaises
  pub former_report : FormerReport
