-- `lent []`: what is unread plays no part in these ends.
use Rattle.std.proofs.Common.{[], sym, ◌∙◌}
use Rattle.worker.specs.Answer.{lent}
use Rattle.worker.specs.Step.{waiting_of}
use Rattle.worker.proofs.Laws.{waiting_reads}
use Rattle.worker.proofs.wait.waiting.Goals as goal

pub returns-then-input : goal.returns-then-input
unfolding waiting_of
returns-then-input c =
    rw c.if-input.true (c.done.ensures [] c.args.payload.now)

pub returns-then-pending_due : goal.returns-then-pending_due
unfolding waiting_of
returns-then-pending_due c =
    c.send_feedback.ensures c.args.unread.now c.args.payload.now
    ∙ rw (c.if-input.false, ← c.pending_due.ensures, c.if-pending_due.true)

pub returns-then-is_woken : goal.returns-then-is_woken
unfolding waiting_of
returns-then-is_woken c =
    rw (
      c.if-input.false,
      ← c.pending_due.ensures,
      c.if-pending_due.false,
      ← c.is_woken.ensures,
      c.if-is_woken.true,
      ← c.with_state.ensures,
    )
    (c.moved.ensures (lent [] _ _))

pub returns-then-is_readable : goal.returns-then-is_readable
returns-then-is_readable c =
    c.waiting_read.ensures
    ∙ sym (waiting_reads _ _ _ c.if-input.false (sym c.pending_due.ensures ∙ c.if-pending_due.false) (sym c.is_woken.ensures ∙ c.if-is_woken.false)
    (sym c.is_readable.ensures ∙ c.if-is_readable.true))

pub returns : goal.returns
unfolding waiting_of
returns c =
    c.idle.ensures c.args.unread.now c.args.payload.now
    ∙ rw (
      c.if-input.false,
      ← c.pending_due.ensures,
      c.if-pending_due.false,
      ← c.is_woken.ensures,
      c.if-is_woken.false,
      ← c.is_readable.ensures,
      c.if-is_readable.false,
    )
