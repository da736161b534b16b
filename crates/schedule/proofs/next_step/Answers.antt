-- By the state.
use Rattle.schedule.specs.NextStep.{state_next, next_step_of}
use Rattle.schedule.proofs.next_step.Goals as goal

pub returns-in-Opening : goal.returns-in-Opening
unfolding next_step_of state_next
returns-in-Opening c = rw (c.opening.ensures, c.in-Opening.is)

pub returns-in-Turn : goal.returns-in-Turn
unfolding next_step_of state_next
returns-in-Turn c = rw c.in-Turn.is

pub returns-in-Drain : goal.returns-in-Drain
unfolding next_step_of state_next
returns-in-Drain c = rw c.in-Drain.is

pub returns-in-Reading : goal.returns-in-Reading
unfolding next_step_of state_next
returns-in-Reading c = rw (c.reading.ensures, c.in-Reading.is)

pub returns-in-Waiting : goal.returns-in-Waiting
unfolding next_step_of state_next
returns-in-Waiting c = rw (c.waiting.ensures, c.in-Waiting.is)

pub returns-in-Handling : goal.returns-in-Handling
unfolding next_step_of state_next
returns-in-Handling c = rw c.in-Handling.is

pub returns-in-Offering : goal.returns-in-Offering
unfolding next_step_of state_next
returns-in-Offering c = rw (c.offering.ensures, c.in-Offering.is)

pub returns-in-Ended : goal.returns-in-Ended
unfolding next_step_of state_next
returns-in-Ended c = rw c.in-Ended.is
