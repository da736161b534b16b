use borrow.Author.Tests.{lt-leb, le-leb}
use Rattle.hours.specs.Calendar.{open_at}
use Rattle.hours.proofs.open_at.Goals as goal

pub returns-then-m-opens : goal.returns-then-m-opens
unfolding open_at
returns-then-m-opens c = simp (lt-leb _ _ c.if-m-opens.true)

pub returns : goal.returns
unfolding open_at
returns c = simp (le-leb _ _ c.if-m-opens.false)
