-- Progress: the position that a status would confirm, the signal and the pending moment. SCOPE 4.1; 01, "Progress". Each call is one operation as
-- a whole. A pending moment of 0 stands for none.
use Rattle.std.specs.Prelude.{Bool, true, false, not, eqb}
use Rattle.wire.specs.Bytes.{pick}
use Rattle.lsn.specs.Position.{is_below}
use Rattle.lsn.specs.declared.Lsn.{Lsn}
use Rattle.moment.specs.Moment.{is_before}
use Rattle.moment.specs.declared.Moment.{Moment}
use Rattle.progress.specs.declared.ProgressCell.{ProgressCell}
use Rattle.progress.specs.declared.Raised.{Raised}
use Rattle.progress.specs.declared.Looked.{Looked}
use Rattle.progress.specs.declared.Reported.{Reported}

abbrev pub cell : Lsn → Bool → Moment → Bool → ProgressCell
cell applied signalled pending timed = record { applied = applied; signalled = signalled; pending_since = pending; timed = timed }

abbrev pub no_moment : Moment
no_moment = record { 0 = 0 }

abbrev pub is_none : Moment → Bool
is_none m = eqb m.0 0

-- ---- what is read of a cell; who reads one elsewhere does so by these

-- the position that a status would confirm
abbrev pub cell_position : ProgressCell → Lsn
cell_position c = c.applied

-- a report raised the position since the signal was last taken
abbrev pub cell_signal : ProgressCell → Bool
cell_signal c = c.signalled

-- since when a report waits for its confirmation, 0 for none
abbrev pub cell_pending : ProgressCell → Moment
cell_pending c = c.pending_since

-- whether moments are stored
abbrev pub cell_timing : ProgressCell → Bool
cell_timing c = c.timed

-- ---- the calls

-- the moment that a raise leaves pending: one that is there stays; with timing off none is stored
abbrev pub stored_by : ProgressCell → Moment → Moment
stored_by c moment = pick c.timed (pick (is_none c.pending_since) moment c.pending_since) c.pending_since

-- a report: a position above the stored one is stored and signalled, and its moment is pending where none is; and whether the signal is new
unfoldable pub raise_of : ProgressCell → Lsn → Moment → Raised
raise_of c position moment =
    pick (is_below c.applied position)
    (record { cell = cell position true (stored_by c moment) c.timed; wake = not c.signalled })
    (record { cell = c; wake = false })

-- the signal cleared, and the position
unfoldable pub looked_of : ProgressCell → Looked
looked_of c = record { cell = cell c.applied false c.pending_since c.timed; applied = c.applied }

-- the pending moment taken for a position that was sent; where the stored position is above that, the moment at which it was read is pending
unfoldable pub reported_of : ProgressCell → Lsn → Moment → Reported
reported_of c sent moment =
    record {
      cell = cell c.applied c.signalled (pick (is_below sent c.applied) moment no_moment) c.timed;
      since = c.pending_since;
    }

-- a pending moment is carried over from an earlier session: the older of two stays
unfoldable pub carried_of : ProgressCell → Moment → ProgressCell
carried_of c since =
    pick c.timed
    (pick (is_none since) c
    (pick (is_none c.pending_since) (cell c.applied c.signalled since c.timed)
    (pick (is_before since c.pending_since) (cell c.applied c.signalled since c.timed) c)))
    c
