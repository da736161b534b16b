use Rattle.worker.specs.Answer.{lent}
use Rattle.worker.proofs.deliver.next.Goals as goal

pub returns-then-is_stopped_at : goal.returns-then-is_stopped_at
returns-then-is_stopped_at c = λ u p.
    rw (← c.is_stopped_at.ensures, c.if-is_stopped_at.true) (c.done.ensures u p)

pub returns : goal.returns
returns c = λ u p. rw (
  ← c.is_stopped_at.ensures,
  c.if-is_stopped_at.false,
  ← c.after_event.ensures,
) (c.handing.ensures (lent u p _))
