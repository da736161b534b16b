use Rattle.ffi_export.proofs.Laws.{replied}
use Rattle.ffi_export.proofs.rufflesquash_display_position.Goals as goal

pub returns : goal.returns
returns c = replied c.written_reply-reply.ensures c.display.ensures
