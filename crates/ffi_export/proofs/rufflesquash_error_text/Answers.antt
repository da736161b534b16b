use Rattle.ffi_export.proofs.Laws.{shown}
use Rattle.ffi_export.proofs.rufflesquash_error_text.Goals as goal

pub returns : goal.returns
returns c = shown c.lossy_reply-reply.ensures c.parse_error_response.ensures
