use Rattle.std.proofs.Common.{◌∙◌}
use Rattle.worker.specs.Step.{stalled_of}
use Rattle.worker.proofs.deliver.stalled.Goals as goal

pub returns-then-input : goal.returns-then-input
unfolding stalled_of
returns-then-input c = λ u p. c.done.ensures u p ∙ rw c.if-input.true

pub returns-in-Free : goal.returns-in-Free
unfolding stalled_of
returns-in-Free c = λ u p.
    c.hands_on.ensures u p ∙ rw (
      c.stall_ended.ensures,
      c.if-input.false,
      c.in-Free.is,
    )

pub returns-in-Closed : goal.returns-in-Closed
unfolding stalled_of
returns-in-Closed c = λ u p.
    c.next.ensures u p ∙ rw (
      c.stall_ended-in-Closed.ensures,
      c.if-input.false,
      c.in-Closed.is,
    )

pub returns-in-Full : goal.returns-in-Full
unfolding stalled_of
returns-in-Full c = λ u p.
    c.stays.ensures u p ∙ rw (c.if-input.false, c.in-Full.is)
