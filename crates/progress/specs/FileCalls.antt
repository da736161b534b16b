-- Any list of calls on a run's progress, in words of the calls alone. SCOPE 4.5, 8.8; 02, wish 5. A list has the newest call first.
use Rattle.std.specs.Prelude.{ℕ, min, max, ◌≤◌, ◌<◌, Bool, true, false, List, [], ◌∷◌, ◌≡◌, ltb, eqb}
use Rattle.wire.specs.Bytes.{pick}
use Rattle.lsn.specs.declared.Lsn.{Lsn}
use Rattle.moment.specs.declared.Moment.{Moment}
use Rattle.progress.specs.declared.files.Files.{Files}
use Rattle.progress.specs.declared.files.Progress.{Progress}
use Rattle.progress.specs.Progress.{no_moment, cell_position, raise_of, looked_of, reported_of}
use Rattle.progress.specs.Calls.{Call, raise, cell_after}
use Rattle.progress.specs.Calls as C
use Rattle.progress.specs.Files.{files, progress, larger, as_cell, beside, filed_of}

-- a file's report of a position at a moment; the signal taken; the pending moment taken, for a position that was sent and read at a moment
pub data FileCall : Type 0 where
  report : ℕ → Lsn → Moment → FileCall
  take_signal : FileCall
  take_pending : Lsn → Moment → FileCall

-- the progress after the calls
unfoldable pub progress_after : Lsn → Bool → List FileCall → Progress
progress_after start timed [] = progress (files start start start start) false no_moment timed
progress_after start timed (report file position moment ∷ h) = (filed_of (progress_after start timed h) file position moment).1
progress_after start timed (take_signal ∷ h) =
    let p : Progress = progress_after start timed h in beside p.files (looked_of (as_cell p)).cell
progress_after start timed (take_pending sent moment ∷ h) =
    let p : Progress = progress_after start timed h in beside p.files (reported_of (as_cell p) sent moment).cell

-- ---- what the calls say, without the progress

-- the largest of the start and the positions that one file reported
unfoldable pub reached : ℕ → Lsn → List FileCall → ℕ
reached file start [] = start.0
reached file start (report n position moment ∷ h) = pick (eqb n file) (max (reached file start h) position.0) (reached file start h)
reached file start (take_signal ∷ h) = reached file start h
reached file start (take_pending sent moment ∷ h) = reached file start h

-- the smallest of that over the four files
abbrev pub confirmable : Lsn → List FileCall → ℕ
confirmable start h = min (min (reached 0 start h) (reached 1 start h)) (min (reached 2 start h) (reached 3 start h))

-- a report at hand raises that smallest
abbrev pub lifts : ℕ → Lsn → Moment → Lsn → List FileCall → Bool
lifts file position moment start h = ltb (confirmable start h) (confirmable start (report file position moment ∷ h))

-- what one cell is told instead: the smallest of the four, each time it rises and only then, at the moment of the report that raised it
unfoldable pub told_to : Lsn → List FileCall → List Call
told_to start [] = []
told_to start (report file position moment ∷ h) =
    pick (lifts file position moment start h)
    (raise (record { 0 = confirmable start (report file position moment ∷ h) }) moment ∷ told_to start h)
    (told_to start h)
told_to start (take_signal ∷ h) = C.take_signal ∷ told_to start h
told_to start (take_pending sent moment ∷ h) = C.take_pending sent moment ∷ told_to start h

-- ---- the theorem

-- the progress after any list of calls, and what a report then answers
pub record ProgressAsCalled (start : Lsn) (timed : Bool) (h : List FileCall) : Type 0 where
  pub zero : (progress_after start timed h).files.zero.0 ≡ reached 0 start h
  pub one : (progress_after start timed h).files.one.0 ≡ reached 1 start h
  pub two : (progress_after start timed h).files.two.0 ≡ reached 2 start h
  pub three : (progress_after start timed h).files.three.0 ≡ reached 3 start h
  -- a status would confirm the smallest of the four
  pub position : (cell_position (as_cell (progress_after start timed h))).0 ≡ confirmable start h
  -- signal, pending moment and position are those of one cell that is told that smallest (Calls says what that cell has)
  pub cell : as_cell (progress_after start timed h) ≡ cell_after start timed (told_to start h)
  -- no file lies behind what a status would confirm
  pub no_file_behind : (file : ℕ) → file ≤ 3 → (cell_position (as_cell (progress_after start timed h))).0 ≤ reached file start h
  -- a number above 3 is refused with 31, and nothing changes; no other is refused
  pub refused : (file : ℕ) (position : Lsn) (moment : Moment) → 3 < file
      → filed_of (progress_after start timed h) file position moment ≡ (31, progress_after start timed h)
  pub accepted : (file : ℕ) (position : Lsn) (moment : Moment) → file ≤ 3 → (filed_of (progress_after start timed h) file position moment).0 ≡ 0

abbrev pub FilesAsCalled : Type 0
FilesAsCalled = (start : Lsn) (timed : Bool) (h : List FileCall) → ProgressAsCalled start timed h

-- ---- one position for all four files

-- reports of one position and moment for one file after the other
unfoldable pub reports_of : List ℕ → Lsn → Moment → Progress → Progress
reports_of [] position moment p = p
reports_of (file ∷ ns) position moment p = (filed_of (reports_of ns position moment p) file position moment).1

-- the file is among them
unfoldable pub names : ℕ → List ℕ → Bool
names file [] = false
names file (n ∷ ns) = pick (eqb n file) true (names file ns)

-- every file is
pub record NamesAll (ns : List ℕ) : Type 0 where
  pub zero : names 0 ns ≡ true
  pub one : names 1 ns ≡ true
  pub two : names 2 ns ≡ true
  pub three : names 3 ns ≡ true

-- four reports of one position and moment, one a file, in any order, leave the cell that one report of that position leaves where there is one
-- cell; so does any list of such reports that names every file. Each file is then at the larger of its position and the reported one
abbrev pub FourReports : Type 0
FourReports =
    (ns : List ℕ) → NamesAll ns → (position : Lsn) (moment : Moment) (p : Progress)
    → let f : Files = p.files in
    let q : Progress = reports_of ns position moment p in
    (as_cell q ≡ (raise_of (as_cell p) position moment).cell)
    × (q.files ≡ files (larger f.zero position) (larger f.one position) (larger f.two position) (larger f.three position))
