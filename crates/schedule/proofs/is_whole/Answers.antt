-- A header is there, and then the payload.
use Rattle.schedule.specs.NextStep.{is_whole}
use borrow.Author.Tests.{lt-ltb, le-ltb}
use Rattle.schedule.proofs.is_whole.Goals as goal

pub returns-then-filled-lt5 : goal.returns-then-filled-lt5
unfolding is_whole
returns-then-filled-lt5 c = simp (lt-ltb _ _ c.if-filled-lt5.true)

pub returns : goal.returns
unfolding is_whole
returns c = rw c.min.ensures (simp (le-ltb _ _ c.if-filled-lt5.false))
