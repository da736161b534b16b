-- The refusal, or the larger positions.
use mathlib.Core.Path.{sym, ◌∙◌}
use Rattle.ledger.proofs.CallLaws.{all_refused, all_taken}
use Rattle.ledger.proofs.Ledger.all_done.Goals as goal

pub returns-then-refusal-ne0 : goal.returns-then-refusal-ne0
returns-then-refusal-ne0 c =
    c.with_refusal.ensures
    ∙ sym (all_refused 0 _ _ _ _ _ c.capacity-n.ensures c.fitted-before.ensures _ c.done_refusal-refusal.ensures c.if-refusal-ne0.true)

pub returns : goal.returns
returns c =
    c.with_refusal-2.ensures
    ∙ sym (all_taken 0 _ _ _ _ _ c.capacity-n.ensures c.fitted-before.ensures _ c.done_refusal-refusal.ensures c.if-refusal-ne0.false _ _
    c.all_raised-raised.ensures c.settled-settled.ensures)
