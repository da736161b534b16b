use Rattle.std.proofs.Common.{◌∙◌}
use Rattle.worker.proofs.deliver.hands_on.Goals as goal

pub returns : goal.returns
returns c = λ u p.
    c.next.ensures u p ∙ rw (c.with_metrics.ensures, c.record_event_forwarded-counted.ensures)
