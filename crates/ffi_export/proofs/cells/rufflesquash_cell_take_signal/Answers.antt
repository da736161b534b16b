use Rattle.ffi_export.proofs.CellLaws.{looked}
use Rattle.ffi_export.proofs.cells.rufflesquash_cell_take_signal.Goals as goal

pub returns : goal.returns
returns c = looked c.cell_of-before.ensures c.take_signal-looked.result c.take_signal-looked.ensures c.cell_words.ensures
