use Rattle.ffi_export.proofs.rufflesquash_state.Goals as goal

pub returns : goal.returns
returns c = rw (c.state_word.ensures, c.state_of.ensures)
