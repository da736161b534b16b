-- By the queue.
use Rattle.schedule.specs.NextStep.{offering_next}
use Rattle.schedule.proofs.offering.Goals as goal

pub returns-in-Free : goal.returns-in-Free
unfolding offering_next
returns-in-Free c = rw c.in-Free.is

pub returns-in-Closed : goal.returns-in-Closed
unfolding offering_next
returns-in-Closed c = rw c.in-Closed.is

pub returns-in-Full : goal.returns-in-Full
unfolding offering_next
returns-in-Full c = rw (c.by_clock.ensures, c.due.ensures, c.in-Full.is)
