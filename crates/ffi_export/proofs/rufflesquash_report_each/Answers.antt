use Rattle.ffi_export.proofs.Laws.{all_reported}
use Rattle.ffi_export.proofs.rufflesquash_report_each.Goals as goal

pub returns : goal.returns
returns c =
    all_reported c.report-zero.result c.report-one.result c.report-two.result c.report-three.result _ _ _ _ _
    c.run_of-before.ensures c.report-zero.ensures c.report-one.ensures c.report-two.ensures
    c.report-three.ensures c.words_of.ensures c.position-position.ensures
