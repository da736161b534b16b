use Rattle.std.proofs.Common.{◌∙◌}
use Rattle.worker.specs.Step.{offering_of}
use Rattle.worker.proofs.deliver.offering.Goals as goal

pub returns-then-run : goal.returns-then-run
unfolding offering_of
returns-then-run c = λ u p. c.stalled.ensures u p ∙ rw c.if-run.true

pub returns-in-Free : goal.returns-in-Free
unfolding offering_of
returns-in-Free c = λ u p.
    c.hands_on.ensures u p ∙ rw (c.if-run.false, c.in-Free.is)

pub returns-in-Closed : goal.returns-in-Closed
unfolding offering_of
returns-in-Closed c = λ u p.
    c.next.ensures u p ∙ rw (c.if-run.false, c.in-Closed.is)

pub returns-in-Full : goal.returns-in-Full
unfolding offering_of
returns-in-Full c = λ u p.
    c.stalled-in-Full.ensures u p ∙ rw (c.stalls.ensures, c.if-run.false, c.in-Full.is)
