use Rattle.worker.specs.Answer.{lent}
use Rattle.worker.specs.Step.{step_in}
use Rattle.worker.proofs.steps.by_state.Goals as goal

pub returns-in-Opening : goal.returns-in-Opening
unfolding step_in
returns-in-Opening c = rw c.in-Opening.is (c.opening.ensures _)

pub returns-in-Turn : goal.returns-in-Turn
unfolding step_in
returns-in-Turn c = rw c.in-Turn.is (c.turn.ensures _ _)

pub returns-in-Drain : goal.returns-in-Drain
unfolding step_in
returns-in-Drain c = rw c.in-Drain.is (c.drain.ensures _)

pub returns-in-Reading : goal.returns-in-Reading
unfolding step_in
returns-in-Reading c = rw c.in-Reading.is (c.reading.ensures _)

pub returns-in-Waiting : goal.returns-in-Waiting
unfolding step_in
returns-in-Waiting c =
    rw c.in-Waiting.is c.waiting.ensures

pub returns-in-Handling : goal.returns-in-Handling
unfolding step_in
returns-in-Handling c =
    rw c.in-Handling.is (c.handling.ensures _)

pub returns-in-Offering : goal.returns-in-Offering
unfolding step_in
returns-in-Offering c = rw c.in-Offering.is (c.offering.ensures _ _)

pub returns-in-Ended : goal.returns-in-Ended
unfolding step_in
returns-in-Ended c =
    rw c.in-Ended.is (c.refused.ensures (lent c.args.unread.now _ _))
