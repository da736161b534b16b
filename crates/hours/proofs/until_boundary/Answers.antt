use borrow.Author.Tests.{lt-ltb, le-ltb}
use Rattle.hours.specs.Code.{until_boundary}
use Rattle.hours.proofs.until_boundary.Goals as goal

pub returns-then-minute-opens : goal.returns-then-minute-opens
unfolding until_boundary
returns-then-minute-opens c = simp (lt-ltb _ _ c.if-minute-opens.true)

pub returns-then-minute-closes : goal.returns-then-minute-closes
unfolding until_boundary
returns-then-minute-closes c = simp (le-ltb _ _ c.if-minute-opens.false, lt-ltb _ _ c.if-minute-closes.true)

pub returns : goal.returns
unfolding until_boundary
returns c = simp (le-ltb _ _ c.if-minute-opens.false, le-ltb _ _ c.if-minute-closes.false)
