-- What one step can do, for every run value and whatever it is lent: how many bytes it takes, what it writes, and which parts of the run it leaves or
-- sets: the four files, the last status, the last whole message and the server's end that a page shows. SCOPE 5.5, 5.8, 5.12, 4.2, 4.5.
use Rattle.std.specs.Prelude.{ℕ, ◌≤◌, Bool, true, ◌≡◌, ◌⊎◌, length}
use Rattle.wire.specs.Bytes.{put}
use Rattle.frontend.specs.Frontend.{status_update, copy_done_message}
use Rattle.lsn.specs.declared.Lsn.{Lsn}
use Rattle.moment.specs.declared.Moment.{Moment}
use Rattle.progress.specs.declared.files.Files.{Files}
use Rattle.progress.specs.Files.{smallest}
use Rattle.frames.specs.Tag.{is_error}
use Rattle.worker.specs.declared.Input.{Input}
use Rattle.worker.specs.declared.LastStatus.{LastStatus}
use Rattle.worker.specs.declared.Run.{Run}
use Rattle.worker.specs.declared.State.TheVariants.{Handling, Offering, Ended}
use Rattle.worker.specs.declared.Whole.{Whole}
use Rattle.worker.specs.Run.{last_status}
use Rattle.worker.specs.Step.{Outcome, Lent, is_ended, refused_with, step_of}

-- the moment of a step, and of the run before it the four files, the last status, the last whole message, the server's end that a page shows and the
-- metric's
pub record Before : Type 0 where
  pub moment : Moment
  pub files : Files
  pub status : LastStatus
  pub whole : Whole
  pub shown : Lsn
  pub end : Lsn

-- what stood before a step of a run, with a moment and the metric's end
abbrev pub before : Moment → Lsn → Run → Before
before m end r = record { moment = m; files = r.progress.files; status = r.status; whole = r.whole; shown = r.server; end = end }

-- what a step wrote: nothing or a CopyDone, which leave the last status, or a status, which confirms the smallest of the files and is then the last
-- one; the rest of the output is as it was
pub data Writing (b : Before) (i : Input) (l : Lent) (o : Outcome) : Type 0 where
  nothing : o.written ≡ 0 → o.out ≡ l.out → o.run.status ≡ b.status → Writing b i l o
  done : o.written ≡ 5 → o.out ≡ put l.out 0 copy_done_message → o.run.status ≡ b.status → Writing b i l o
  status : (reply : Bool) → o.written ≡ 39 → o.out ≡ put l.out 0 (status_update (smallest b.files).0 i.client_time reply)
      → o.run.status ≡ last_status true (smallest b.files) b.moment → Writing b i l o

-- the last whole message, of the step's refusal and the run after it: the same; or the one that the next step handles; or an error that ends the run
pub data LastMessage (w : Whole) (refusal : ℕ) (r : Run) : Type 0 where
  same : r.whole ≡ w → LastMessage w refusal r
  handles : r.state ≡ Handling → LastMessage w refusal r
  fails : refusal ≡ 19 → LastMessage w refusal r

-- the server's end that a page shows and the metric's, of the run after the step: both stay; or an event is offered, and the page's is the metric's;
-- or the run ends, and the page's stays
pub data Heard (shown end : Lsn) (r : Run) : Type 0 where
  stay : r.server ≡ shown → r.metrics.last_wal_end ≡ end → Heard shown end r
  offered : r.state ≡ Offering → r.server ≡ r.metrics.last_wal_end → Heard shown end r
  ended : r.state ≡ Ended → r.server ≡ shown → Heard shown end r

-- it takes no more than it is lent, and the four files stay
pub record Effects (i : Input) (l : Lent) (b : Before) (o : Outcome) : Type 0 where
  pub taken : o.taken ≤ length l.unread
  pub preserved : o.run.progress.files ≡ b.files
  pub writes : Writing b i l o
  pub message : LastMessage b.whole o.refusal o.run
  pub server : Heard b.shown b.end o.run

-- so for every run value and input, whatever is lent
abbrev pub StepEffects : Type 0
StepEffects = (r : Run) (i : Input) (l : Lent) → Effects i l (before i.moment r.metrics.last_wal_end r) (step_of r i l)

-- an error that is to be handled is refused with 19, unless the run stays in Handling, as it does where the step is refused with 3, 4 or 5
abbrev pub ErrorRefused : Type 0
ErrorRefused =
    (r : Run) (i : Input) (l : Lent) → r.state ≡ Handling → is_error r.whole.tag ≡ true
    → ((step_of r i l).refusal ≡ 19) ⊎ ((step_of r i l).run.state ≡ Handling)

-- a run that has ended is refused with 2, and stays as it is
abbrev pub EndedRefused : Type 0
EndedRefused = (r : Run) (i : Input) (l : Lent) → is_ended r.state ≡ true → step_of r i l ≡ refused_with 2 r l
