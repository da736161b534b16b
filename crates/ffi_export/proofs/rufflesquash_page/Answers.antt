use Rattle.ffi_export.proofs.Laws.{replied}
use Rattle.ffi_export.proofs.rufflesquash_page.Goals as goal

pub returns : goal.returns
returns c =
    replied c.written_reply-reply.ensures (rw c.page_of-page.ensures at c.write.ensures)
