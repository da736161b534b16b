-- By two tests of the number.
use Rattle.schedule.specs.NextStep.{by_clock}
use borrow.Author.Tests.{eq-eqb, ne_eqb, lt-ltb, le-ltb}
use Rattle.schedule.proofs.by_clock.Goals as goal

pub returns-then-due-eq0 : goal.returns-then-due-eq0
unfolding by_clock
returns-then-due-eq0 c = simp (eq-eqb _ _ c.if-due-eq0.true)

pub returns-then-due-lt-BEYOND : goal.returns-then-due-lt-BEYOND
unfolding by_clock
returns-then-due-lt-BEYOND c = simp (ne_eqb _ _ c.if-due-eq0.false, lt-ltb _ _ c.if-due-lt-BEYOND.true)

pub returns : goal.returns
unfolding by_clock
returns c = simp (ne_eqb _ _ c.if-due-eq0.false, le-ltb _ _ c.if-due-lt-BEYOND.false)
