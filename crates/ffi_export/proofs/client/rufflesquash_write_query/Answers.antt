use Rattle.ffi_export.proofs.Laws.{replied}
use Rattle.ffi_export.proofs.client.rufflesquash_write_query.Goals as goal

pub returns : goal.returns
returns c = replied c.written_reply-reply.ensures c.write_query.ensures
