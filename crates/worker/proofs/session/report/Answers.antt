use Rattle.worker.specs.Session.{report_of}
use Rattle.worker.proofs.session.report.Goals as goal

pub returns : goal.returns
unfolding report_of
returns c = rw (c.with_progress-next.ensures, ← c.report-filed.ensures)
