use Rattle.ffi_export.proofs.CellLaws.{carried}
use Rattle.ffi_export.proofs.cells.rufflesquash_cell_carry_pending.Goals as goal

pub returns : goal.returns
returns c = carried c.cell_of-before.ensures _ c.carry_pending-after.ensures c.cell_words.ensures
