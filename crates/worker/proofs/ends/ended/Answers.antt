use Rattle.worker.proofs.ends.ended.Goals as goal

pub returns : goal.returns
returns c = λ l. rw (← c.with_state.ensures) (c.refused.ensures l)
