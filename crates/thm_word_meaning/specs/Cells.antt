-- What the words of a progress cell mean, and what each call over them answers and leaves: four words, which are the position, whether the signal is
-- set, the pending moment and whether moments are stored. SCOPE 9.3, 4.1. The places have names in ffi_words/src/layout.rt.
use Rattle.std.specs.Prelude.{ℕ, Bool, false, List, [], ◌∷◌, ◌≡◌}
use Rattle.progress.specs.declared.ProgressCell.{ProgressCell}
use Rattle.progress.specs.declared.Raised.{Raised}
use Rattle.progress.specs.declared.Looked.{Looked}
use Rattle.progress.specs.declared.Reported.{Reported}
use Rattle.progress.specs.Progress.{raise_of, looked_of, reported_of, carried_of}
use Rattle.thm_any_calls.specs.Tests.{lsn}
use Rattle.ffi_words.specs.Cells.{cell_new_call, cell_load_call, cell_pending_since_call}
use Rattle.ffi_words.specs.Cells.{cell_raise_call, cell_take_signal_call, cell_take_pending_call, cell_carry_pending_call}
use Rattle.ffi_words.specs.Words.{cell_of, cell_words}
use Rattle.thm_host_calls.specs.HostWords.{word, is_set, flag, moment}

-- a cell by its position, signal, pending moment and timing
abbrev pub cell_by : ℕ → Bool → ℕ → Bool → ProgressCell
cell_by applied signalled pending timed =
    record { applied = lsn applied; signalled = signalled; pending_since = moment pending; timed = timed }

-- the cell that words stand for, and the words of a cell
abbrev pub CellWords : Type 0
CellWords =
    ((a b c d : ℕ)
    → cell_of (a ∷ b ∷ c ∷ d ∷ []) ≡ record { applied = lsn a; signalled = is_set b; pending_since = moment c; timed = is_set d })
    × ((a c : ℕ) (b d : Bool)
    → cell_words (record { applied = lsn a; signalled = b; pending_since = moment c; timed = d }) ≡ a ∷ flag b ∷ c ∷ flag d ∷ [])

-- a call leaves the words of a cell, and they stand for it
abbrev pub Leaves : List ℕ × ProgressCell → ProgressCell → Type 0
Leaves left c = left ≡ (c.applied.0 ∷ flag c.signalled ∷ c.pending_since.0 ∷ flag c.timed ∷ [], c)

-- the cell of the words that a call is lent
abbrev pub cell_in : List ℕ → ProgressCell
cell_in w = cell_by (word w 0) (is_set (word w 1)) (word w 2) (is_set (word w 3))

-- each call, of any words: what it returns, and the cell that it leaves
pub record CellCalls : Type 0 where
  -- a new cell has no signal and no pending moment
  pub new : (start : ℕ) (timed : Bool) → cell_new_call start timed ≡ (start ∷ 0 ∷ 0 ∷ flag timed ∷ [], cell_by start false 0 timed)
  -- a look at the position, and at the pending moment, 0 for none
  pub load : (w : List ℕ) → cell_load_call w ≡ word w 0
  pub pending_since : (w : List ℕ) → cell_pending_since_call w ≡ word w 2
  -- a raise returns 1 where the signal is new, else 0
  pub raise : (w : List ℕ) (position at : ℕ) →
      let r : Raised = raise_of (cell_in w) (lsn position) (moment at) in
      ((cell_raise_call w position at).0 ≡ flag r.wake) × Leaves (cell_raise_call w position at).1 r.cell
  -- taking the signal returns the position
  pub take_signal : (w : List ℕ) →
      let l : Looked = looked_of (cell_in w) in ((cell_take_signal_call w).0 ≡ l.applied.0) × Leaves (cell_take_signal_call w).1 l.cell
  -- taking the pending moment returns it, 0 for none
  pub take_pending : (w : List ℕ) (sent at : ℕ) →
      let r : Reported = reported_of (cell_in w) (lsn sent) (moment at) in
      ((cell_take_pending_call w sent at).0 ≡ r.since.0) × Leaves (cell_take_pending_call w sent at).1 r.cell
  -- carrying a pending moment over returns nothing
  pub carry_pending : (w : List ℕ) (since : ℕ) → Leaves (cell_carry_pending_call w since) (carried_of (cell_in w) (moment since))
