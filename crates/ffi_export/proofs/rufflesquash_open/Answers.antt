use Rattle.ffi_export.proofs.Laws.{opened, not_opened, open_by}
use Rattle.ffi_export.proofs.rufflesquash_open.Goals as goal

pub returns-then-reply-eq0 : goal.returns-then-reply-eq0
returns-then-reply-eq0 c =
    opened c.open-o.result (open_by c.settings_of-s.ensures _ _ _ _ _ c.open-o.ensures) c.written_reply-reply.ensures _ c.if-reply-eq0.true c.words_of.ensures

pub returns-else-reply-eq0 : goal.returns-else-reply-eq0
returns-else-reply-eq0 c =
    not_opened c.open-o.result (open_by c.settings_of-s.ensures _ _ _ _ _ c.open-o.ensures) c.written_reply-reply.ensures c.if-reply-eq0.false
