-- Any list of calls on a cell, in words of the calls alone. SCOPE 4.1, 8.8; 01, "Progress". A list has the newest call first. A moment of 0
-- stands for none.
use Rattle.std.specs.Prelude.{ℕ, min, max, Bool, true, false, not, List, [], ◌∷◌, ◌≡◌, ltb, eqb}
use Rattle.wire.specs.Bytes.{pick}
use Rattle.lsn.specs.declared.Lsn.{Lsn}
use Rattle.moment.specs.declared.Moment.{Moment}
use Rattle.progress.specs.declared.ProgressCell.{ProgressCell}
use Rattle.progress.specs.Progress.{cell, no_moment, cell_position, cell_signal, cell_pending, cell_timing, raise_of, looked_of, reported_of, carried_of}

-- a raise to a position at a moment; the signal taken; the pending moment taken, for a position that was sent and read at a moment; a pending
-- moment carried over from an earlier session
pub data Call : Type 0 where
  raise : Lsn → Moment → Call
  take_signal : Call
  take_pending : Lsn → Moment → Call
  carry_pending : Moment → Call

-- the cell after the calls
unfoldable pub cell_after : Lsn → Bool → List Call → ProgressCell
cell_after start timed [] = cell start false no_moment timed
cell_after start timed (raise position moment ∷ h) = (raise_of (cell_after start timed h) position moment).cell
cell_after start timed (take_signal ∷ h) = (looked_of (cell_after start timed h)).cell
cell_after start timed (take_pending sent moment ∷ h) = (reported_of (cell_after start timed h) sent moment).cell
cell_after start timed (carry_pending since ∷ h) = carried_of (cell_after start timed h) since

-- ---- what the calls say, without the cell

-- the largest of the start and the positions raised to
unfoldable pub largest : Lsn → List Call → ℕ
largest start [] = start.0
largest start (raise position moment ∷ h) = max position.0 (largest start h)
largest start (take_signal ∷ h) = largest start h
largest start (take_pending sent moment ∷ h) = largest start h
largest start (carry_pending since ∷ h) = largest start h

-- a raise to this position goes above all before it
abbrev pub rises : Lsn → Lsn → List Call → Bool
rises position start h = ltb (largest start h) position.0

-- a raise went above all before it since the signal was last taken
unfoldable pub signalled : Lsn → List Call → Bool
signalled start [] = false
signalled start (raise position moment ∷ h) = pick (rises position start h) true (signalled start h)
signalled start (take_signal ∷ h) = false
signalled start (take_pending sent moment ∷ h) = signalled start h
signalled start (carry_pending since ∷ h) = signalled start h

-- of two moments the first, where there is one
abbrev pub or_else : ℕ → ℕ → ℕ
or_else a b = pick (eqb a 0) b a

-- the older of two moments, where there are two
abbrev pub older : ℕ → ℕ → ℕ
older a b = pick (eqb a 0) b (pick (eqb b 0) a (min a b))

-- the pending moment. With timing on, a raise that goes above all before it keeps the moment that is there, or stores its own; of a carried
-- moment and the one that is there the older stays. Taken for a position below the largest, the pending moment becomes the one at which that
-- position was read
unfoldable pub pending_since : Lsn → Bool → List Call → ℕ
pending_since start timed [] = 0
pending_since start timed (raise position moment ∷ h) =
    let p : ℕ = pending_since start timed h in
    pick timed (pick (rises position start h) (or_else p moment.0) p) p
pending_since start timed (take_signal ∷ h) = pending_since start timed h
pending_since start timed (take_pending sent moment ∷ h) = pick (ltb sent.0 (largest start h)) moment.0 0
pending_since start timed (carry_pending since ∷ h) =
    let p : ℕ = pending_since start timed h in
    pick timed (older since.0 p) p

-- ---- the theorem

-- the cell after any list of calls, and what its next call answers
pub record CellAsCalled (start : Lsn) (timed : Bool) (h : List Call) : Type 0 where
  pub position : (cell_position (cell_after start timed h)).0 ≡ largest start h
  pub signal : cell_signal (cell_after start timed h) ≡ signalled start h
  pub pending : (cell_pending (cell_after start timed h)).0 ≡ pending_since start timed h
  pub timing : cell_timing (cell_after start timed h) ≡ timed
  -- a raise wakes where it goes above all before it and no signal waits
  pub wake : (position : Lsn) (moment : Moment)
      → (raise_of (cell_after start timed h) position moment).wake ≡ pick (rises position start h) (not (signalled start h)) false
  -- the signal taken answers the position, the pending moment taken answers the moment
  pub looked : (looked_of (cell_after start timed h)).applied.0 ≡ largest start h
  pub taken : (sent : Lsn) (moment : Moment) → (reported_of (cell_after start timed h) sent moment).since.0 ≡ pending_since start timed h

abbrev pub CellsAsCalled : Type 0
CellsAsCalled = (start : Lsn) (timed : Bool) (h : List Call) → CellAsCalled start timed h
