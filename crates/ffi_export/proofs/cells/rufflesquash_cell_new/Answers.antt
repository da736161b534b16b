use Rattle.ffi_export.proofs.CellLaws.{made}
use Rattle.ffi_export.proofs.cells.rufflesquash_cell_new.Goals as goal

pub returns : goal.returns
returns c = made c.new-new.ensures c.cell_words.ensures
