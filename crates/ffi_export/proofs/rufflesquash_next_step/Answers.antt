use Rattle.ffi_export.proofs.Laws.{next}
use Rattle.ffi_export.proofs.rufflesquash_next_step.Goals as goal

pub returns : goal.returns
returns c = next c.run_of-r.ensures _ c.next_step.result c.queue_of-q.ensures c.next_step.ensures c.next_words.ensures
