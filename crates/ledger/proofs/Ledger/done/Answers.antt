-- The refusal, or the larger positions.
use mathlib.Core.Path.{sym, ◌∙◌}
use Rattle.ledger.proofs.CallLaws.{done_refused, done_taken}
use Rattle.ledger.proofs.Ledger.done.Goals as goal

pub returns-then-refusal-ne0 : goal.returns-then-refusal-ne0
returns-then-refusal-ne0 c =
    c.with_refusal.ensures
    ∙ sym (done_refused _ _ _ _ _ _ c.capacity-n.ensures c.fitted-before.ensures _ c.done_refusal-refusal.ensures c.if-refusal-ne0.true)

pub returns : goal.returns
returns c =
    c.with_refusal-2.ensures
    ∙ sym (done_taken _ _ _ _ _ _ c.capacity-n.ensures c.fitted-before.ensures _ c.done_refusal-refusal.ensures c.if-refusal-ne0.false _ _
    c.raised-raised.ensures c.settled-settled.ensures)
