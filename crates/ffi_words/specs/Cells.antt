-- What each exported call over a progress cell's words answers and leaves: one definition for each call, which its contract in `ffi_export` cites. Beside
-- the words at exit stands the cell that they stand for, so that calls over words are calls over cells. SCOPE 9.3, 4.1.
use Rattle.std.specs.Prelude.{ℕ, Bool, false, List}
use Rattle.wire.specs.Bytes.{flag_word}
use Rattle.progress.specs.declared.Looked.{Looked}
use Rattle.progress.specs.declared.ProgressCell.{ProgressCell}
use Rattle.progress.specs.declared.Raised.{Raised}
use Rattle.progress.specs.declared.Reported.{Reported}
use Rattle.progress.specs.Progress.{cell, cell_position, cell_pending, no_moment, raise_of, looked_of, reported_of, carried_of}
use Rattle.worker.specs.Run.{lsn}
use Rattle.ffi_words.specs.Words.{moment, cell_of, cell_words}

-- words, and the cell that they stand for
abbrev pub CellStanding : Type 0
CellStanding = List ℕ × ProgressCell

-- any words stand for some cell
abbrev pub cell_standing : List ℕ → CellStanding
cell_standing w = (w, cell_of w)

-- the words of a cell stand for it
abbrev pub cell_written : ProgressCell → CellStanding
cell_written c = (cell_words c, c)

-- ---- what is left of what a call on a cell answers

-- whether the signal is new, and the cell after a raise
abbrev pub raised_left : Raised → ℕ × CellStanding
raised_left r = (flag_word r.wake, cell_written r.cell)

-- the position, and the cell with its signal cleared
abbrev pub looked_left : Looked → ℕ × CellStanding
looked_left l = (l.applied.0, cell_written l.cell)

-- the moment that was pending, and the cell after a status
abbrev pub reported_left : Reported → ℕ × CellStanding
reported_left r = (r.since.0, cell_written r.cell)

-- ---- the calls

-- `rufflesquash_cell_new`
abbrev pub cell_new_call : ℕ → Bool → CellStanding
cell_new_call start timed = cell_written (cell (lsn start) false no_moment timed)

-- `rufflesquash_cell_load`
abbrev pub cell_load_call : List ℕ → ℕ
cell_load_call w = (cell_position (cell_of w)).0

-- `rufflesquash_cell_pending_since`
abbrev pub cell_pending_since_call : List ℕ → ℕ
cell_pending_since_call w = (cell_pending (cell_of w)).0

-- `rufflesquash_cell_raise`
abbrev pub cell_raise_call : List ℕ → ℕ → ℕ → ℕ × CellStanding
cell_raise_call w p m = raised_left (raise_of (cell_of w) (lsn p) (moment m))

-- `rufflesquash_cell_take_signal`
abbrev pub cell_take_signal_call : List ℕ → ℕ × CellStanding
cell_take_signal_call w = looked_left (looked_of (cell_of w))

-- `rufflesquash_cell_take_pending`
abbrev pub cell_take_pending_call : List ℕ → ℕ → ℕ → ℕ × CellStanding
cell_take_pending_call w sent m = reported_left (reported_of (cell_of w) (lsn sent) (moment m))

-- `rufflesquash_cell_carry_pending`
abbrev pub cell_carry_pending_call : List ℕ → ℕ → CellStanding
cell_carry_pending_call w since = cell_written (carried_of (cell_of w) (moment since))
