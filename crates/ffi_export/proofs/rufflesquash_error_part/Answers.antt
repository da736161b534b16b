use Rattle.ffi_export.proofs.Laws.{error_part_lem}
use Rattle.ffi_export.proofs.rufflesquash_error_part.Goals as goal

pub returns : goal.returns
returns c = error_part_lem c.run_of-r.ensures _ c.error_part-error.result c.error_part-error.ensures c.error_words.ensures
