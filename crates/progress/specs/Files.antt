-- The progress of a run: four files, one confirmation. SCOPE 4.5; 02, wish 5. Each file has the largest of the start and its own reports, and a
-- status confirms the smallest of the four. That smallest is not stored: it is read off the four, so that no words can disagree. What the step
-- sees of a run's progress is a cell whose position is that smallest (`as_cell`).
use Rattle.std.specs.Prelude.{ℕ, min, max, Bool, eqb, ltb, Result, Ok, Err}
use Rattle.wire.specs.Bytes.{pick}
use Rattle.error.specs.Refusal.{usage}
use Rattle.lsn.specs.declared.Lsn.{Lsn}
use Rattle.moment.specs.declared.Moment.{Moment}
use Rattle.progress.specs.declared.ProgressCell.{ProgressCell}
use Rattle.progress.specs.declared.files.Files.{Files}
use Rattle.progress.specs.declared.files.Progress.{Progress}
use Rattle.progress.specs.declared.files.FileRefusal.{FileRefusal}
use Rattle.progress.specs.declared.files.FileRefusal.TheVariants.{NoSuchFile}
use Rattle.progress.specs.declared.files.Filed.{Filed}
use Rattle.progress.specs.Progress.{cell, cell_signal, cell_pending, cell_timing, raise_of}

-- ---- the refusal

-- its number, and its kind: only the caller's own input brings it about
abbrev pub file_number : FileRefusal → ℕ
file_number NoSuchFile = 31

abbrev pub file_kind : FileRefusal → ℕ
file_kind NoSuchFile = usage

-- the refusal's number, 0 for none
abbrev pub file_verdict : Result (Unit {0}) FileRefusal → ℕ
file_verdict (Ok tt) = 0
file_verdict (Err r) = file_number r

-- the files are numbered from 0 to 3
abbrev pub no_file : ℕ → Bool
no_file file = ltb 3 file

-- ---- four positions

abbrev pub files : Lsn → Lsn → Lsn → Lsn → Files
files a b c d = record { zero = a; one = b; two = c; three = d }

abbrev pub smaller : Lsn → Lsn → Lsn
smaller a b = record { 0 = min a.0 b.0 }

abbrev pub larger : Lsn → Lsn → Lsn
larger a b = record { 0 = max a.0 b.0 }

-- what a status would confirm
unfoldable pub smallest : Files → Lsn
smallest f = smaller (smaller f.zero f.one) (smaller f.two f.three)

-- a file goes to the larger of its position and a reported one; of a number above 3 there is no file
unfoldable pub raised_in : ℕ → Lsn → Files → Files
raised_in file p f =
    pick (eqb file 0) (files (larger f.zero p) f.one f.two f.three)
    (pick (eqb file 1) (files f.zero (larger f.one p) f.two f.three)
    (pick (eqb file 2) (files f.zero f.one (larger f.two p) f.three)
    (pick (eqb file 3) (files f.zero f.one f.two (larger f.three p)) f)))

-- ---- the four with what is known of reports that were not yet confirmed

abbrev pub progress : Files → Bool → Moment → Bool → Progress
progress f signalled pending timed = record { files = f; signalled = signalled; pending_since = pending; timed = timed }

-- the cell that the four files have together; who reads a run's progress elsewhere does so by this
abbrev pub as_cell : Progress → ProgressCell
as_cell p = cell (smallest p.files) p.signalled p.pending_since p.timed

-- files, with what a cell knows beside its position
abbrev pub beside : Files → ProgressCell → Progress
beside f c = progress f (cell_signal c) (cell_pending c) (cell_timing c)

-- ---- a report

-- a file that is none is refused with 31, and nothing changes. Else that file is raised, and the cell to the smallest of the four: `raise_of`
-- signals and stores a moment only where that is above the cell's position, which was the smallest
unfoldable pub filed_of : Progress → ℕ → Lsn → Moment → ℕ × Progress
filed_of p file position moment =
    let f : Files = raised_in file position p.files in
    pick (no_file file) (31, p) (0, beside f (raise_of (as_cell p) (smallest f) moment).cell)

-- what an answer says
abbrev pub filed_by : Filed → ℕ × Progress
filed_by a = (file_verdict a.verdict, a.progress)
