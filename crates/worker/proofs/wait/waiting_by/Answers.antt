use Rattle.worker.specs.Answer.{lent}
use Rattle.worker.proofs.wait.waiting_by.Goals as goal

pub returns-in-Ok-Some : goal.returns-in-Ok-Some
returns-in-Ok-Some c = λ u p. rw (c.in-Ok-Some.is, rw c.in-Ok-Some.is at c.in-Ok-Some.field-0-is) (c.to_handle.ensures (lent u p _))

pub returns-in-Err : goal.returns-in-Err
returns-in-Err c = λ u p. rw c.in-Err.is (c.ended.ensures (lent u p _))
