use Rattle.std.proofs.Common.{◌∙◌}
use Rattle.worker.specs.Answer.{lent}
use Rattle.worker.specs.Step.{turn_of}
use Rattle.worker.proofs.rounds.turn.Goals as goal

pub returns-then-status_due : goal.returns-then-status_due
unfolding turn_of
returns-then-status_due c = λ u p.
    rw (
      ← c.status_due.ensures,
      c.if-status_due.true,
      ← c.with_drained-next.ensures,
    ) (c.send_feedback.ensures u p)

pub returns : goal.returns
unfolding turn_of
returns c = λ u p.
    c.moved.ensures (lent u p _) ∙ rw (
      c.with_state.ensures,
      c.with_drained-next.ensures,
      ← c.status_due.ensures,
      c.if-status_due.false,
    )
