use Rattle.worker.specs.Session.{already_open_of}
use Rattle.worker.proofs.session.already_open.Goals as goal

pub returns-then-bad_interval : goal.returns-then-bad_interval
unfolding already_open_of
returns-then-bad_interval c = rw (c.fresh_run-run.ensures, ← c.bad_interval.ensures, c.if-bad_interval.true)

pub returns : goal.returns
unfolding already_open_of
returns c = rw (c.fresh_run-run.ensures, ← c.bad_interval.ensures, c.if-bad_interval.false)
