use Rattle.worker.proofs.receive.opening_by.Goals as goal

pub returns-in-Ok-None : goal.returns-in-Ok-None
returns-in-Ok-None c = λ l. rw (c.in-Ok-None.is, rw c.in-Ok-None.is at c.in-Ok-None.field-0-is) (c.moved.ensures l)

pub returns-in-Err : goal.returns-in-Err
returns-in-Err c = λ l. rw c.in-Err.is (c.ended.ensures l)
