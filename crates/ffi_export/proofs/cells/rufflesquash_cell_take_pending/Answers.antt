use Rattle.ffi_export.proofs.CellLaws.{reported}
use Rattle.ffi_export.proofs.cells.rufflesquash_cell_take_pending.Goals as goal

pub returns : goal.returns
returns c = reported c.cell_of-before.ensures _ _ c.take_pending-reported.result c.take_pending-reported.ensures c.cell_words.ensures
