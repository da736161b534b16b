-- The stretch from the front on.
use Rattle.utf8.proofs.Entries.{is_table}
use native.Mathlib.Omega.{arith}
use Rattle.lossy.proofs.by_table.well_formed_prefix.Goals as goal

pub stretch_in-requires : goal.stretch_in-requires
stretch_in-requires c = (omega arith, is_table c.states-table.ensures)
