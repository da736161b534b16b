use Rattle.worker.specs.Run.{fresh_run}
use Rattle.worker.proofs.session.fresh_run.Goals as goal

pub returns : goal.returns
unfolding fresh_run
returns c = rw (c.new-reader.ensures, c.new-progress.ensures, c.offer-offer.ensures, c.new-metrics.ensures)
