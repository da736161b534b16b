use Rattle.ffi_export.proofs.Laws.{replied}
use Rattle.ffi_export.proofs.generated.rufflesquash_load.Goals as goal

pub returns : goal.returns
returns c = replied c.loaded_reply-reply.ensures c.write_load.ensures
