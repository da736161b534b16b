use Rattle.worker.specs.Answer.{lent}
use Rattle.worker.proofs.deliver.stays.Goals as goal

pub returns : goal.returns
returns c = λ u p. rw (← c.interval_passed.ensures, c.if-interval_passed.false) (c.moved.ensures (lent u p _))
