use Rattle.ffi_export.proofs.Laws.{already, not_already, already_by}
use Rattle.ffi_export.proofs.rufflesquash_already_open.Goals as goal

pub returns-then-refusal-eq0 : goal.returns-then-refusal-eq0
returns-then-refusal-eq0 c =
    already c.already_open-o.result (already_by c.settings_of-s.ensures _ c.already_open-o.ensures) c.verdict_word-refusal.ensures _ c.if-refusal-eq0.true c.words_of.ensures

pub returns-else-refusal-eq0 : goal.returns-else-refusal-eq0
returns-else-refusal-eq0 c = not_already c.already_open-o.result (already_by c.settings_of-s.ensures _ c.already_open-o.ensures) c.verdict_word-refusal.ensures c.if-refusal-eq0.false
