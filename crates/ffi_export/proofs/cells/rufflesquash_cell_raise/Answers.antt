use Rattle.ffi_export.proofs.CellLaws.{raised}
use Rattle.ffi_export.proofs.cells.rufflesquash_cell_raise.Goals as goal

pub returns : goal.returns
returns c = raised c.cell_of-before.ensures _ _ c.raise-raised.result c.raise-raised.ensures c.cell_words.ensures c.flag.ensures
