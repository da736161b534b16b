use Rattle.ffi_export.proofs.cells.rufflesquash_cell_pending_since.Goals as goal

pub returns : goal.returns
returns c = rw (c.pending_since.ensures, c.cell_of-c.ensures)
