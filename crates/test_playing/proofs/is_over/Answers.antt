use Rattle.test_playing.proofs.is_over.Goals as goal

pub returns-in-Opening : goal.returns-in-Opening
returns-in-Opening c = rw (← c.state-state.ensures, c.in-Opening.is)

pub returns-in-Turn : goal.returns-in-Turn
returns-in-Turn c = rw (← c.state-state.ensures, c.in-Turn.is)

pub returns-in-Drain : goal.returns-in-Drain
returns-in-Drain c = rw (← c.state-state.ensures, c.in-Drain.is)

pub returns-in-Reading : goal.returns-in-Reading
returns-in-Reading c = rw (← c.state-state.ensures, c.in-Reading.is)

pub returns-in-Waiting : goal.returns-in-Waiting
returns-in-Waiting c = rw (← c.state-state.ensures, c.in-Waiting.is)

pub returns-in-Handling : goal.returns-in-Handling
returns-in-Handling c = rw (← c.state-state.ensures, c.in-Handling.is)

pub returns-in-Offering : goal.returns-in-Offering
returns-in-Offering c = rw (← c.state-state.ensures, c.in-Offering.is)

pub returns-in-Ended : goal.returns-in-Ended
returns-in-Ended c = rw (← c.state-state.ensures, c.in-Ended.is)
