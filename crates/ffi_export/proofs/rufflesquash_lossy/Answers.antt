use Rattle.ffi_export.proofs.Laws.{shown}
use Rattle.ffi_export.proofs.rufflesquash_lossy.Goals as goal

pub returns : goal.returns
returns c = shown c.lossy_reply-reply.ensures c.write_lossy.ensures
