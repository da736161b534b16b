use Rattle.ffi_export.proofs.rufflesquash_position.Goals as goal

pub returns : goal.returns
returns c = rw (c.position-position.ensures, c.progress_of-progress.ensures)
