-- The tests in their order.
use Rattle.schedule.specs.NextStep.{waiting_next}
use Rattle.schedule.proofs.waiting.Goals as goal

pub returns-then-run : goal.returns-then-run
unfolding waiting_next
returns-then-run c =
    rw (c.by_clock.ensures, c.min.ensures, c.due-status.ensures, c.due-idle.ensures) (simp c.if-run.true)

pub returns-then-run-2 : goal.returns-then-run-2
unfolding waiting_next
returns-then-run-2 c = simp (c.if-run.false, c.if-run-2.true)

pub returns : goal.returns
unfolding waiting_next
returns c = rw (c.by_clock-2.ensures, c.due-idle.ensures) (simp (c.if-run.false, c.if-run-2.false))
