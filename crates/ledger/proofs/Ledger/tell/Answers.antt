-- The mark, then the list, then the kind.
use mathlib.Core.Path.{refl, sym, ◌∙◌}
use Rattle.ledger.proofs.CallLaws.{answered_left, refused_left, tell_marked, tell_refused, tell_kind}
use Rattle.ledger.proofs.Ledger.tell.Goals as goal

pub returns-then-mark-ne0 : goal.returns-then-mark-ne0
returns-then-mark-ne0 c =
    answered_left _ _ _ _ _ refl c.with_refusal.ensures
    ∙ sym (tell_marked _ _ _ _ _ _ _ _ _ c.capacity-n.ensures c.fitted-before.ensures c.if-mark-ne0.true)

pub returns-then-refusal-ne0 : goal.returns-then-refusal-ne0
returns-then-refusal-ne0 c =
    refused_left _ _ _ c.fitted-before.result _ refl c.refused.ensures
    ∙ sym (tell_refused _ _ _ _ _ _ _ _ _ c.capacity-n.ensures c.fitted-before.ensures c.if-mark-ne0.false _ _ c.after_event-reply.ensures
    c.if-refusal-ne0.true)

pub returns : goal.returns
returns c =
    c.kind_told.ensures
    ∙ sym (tell_kind _ _ _ _ _ _ _ _ _ c.capacity-n.ensures c.fitted-before.ensures c.if-mark-ne0.false _ _ _ c.after_event-reply.ensures
    c.if-refusal-ne0.false c.min-listed.ensures)
