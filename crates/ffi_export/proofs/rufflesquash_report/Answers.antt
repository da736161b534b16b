use Rattle.ffi_export.proofs.Laws.{reported, not_reported}
use Rattle.ffi_export.proofs.rufflesquash_report.Goals as goal

pub returns-then-refusal-eq0 : goal.returns-then-refusal-eq0
returns-then-refusal-eq0 c =
    reported c.report-a.result _ _ _ c.run_of-before.ensures c.report-a.ensures c.file_verdict_word-refusal.ensures
    _ c.if-refusal-eq0.true c.words_of.ensures

pub returns-else-refusal-eq0 : goal.returns-else-refusal-eq0
returns-else-refusal-eq0 c =
    not_reported c.report-a.result _ _ _ c.run_of-before.ensures c.report-a.ensures c.file_verdict_word-refusal.ensures
    _ c.if-refusal-eq0.false
