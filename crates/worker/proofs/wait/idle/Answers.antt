use Rattle.worker.specs.Answer.{lent}
use Rattle.worker.proofs.wait.idle.Goals as goal

pub returns : goal.returns
returns c = λ u p. rw (← c.idle_passed.ensures, c.if-idle_passed.false) (c.moved.ensures (lent u p _))
