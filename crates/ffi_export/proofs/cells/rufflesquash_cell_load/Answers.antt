use Rattle.ffi_export.proofs.cells.rufflesquash_cell_load.Goals as goal

pub returns : goal.returns
returns c = rw (c.load.ensures, c.cell_of-c.ensures)
