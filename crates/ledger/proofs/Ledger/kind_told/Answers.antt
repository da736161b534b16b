-- By the kind.
use mathlib.Core.Path.{sym, ap, ◌∙◌}
use Rattle.ledger.proofs.CallLaws.{answered_left, told_commit, told_begin, told_open, told_seen, told_message, told_other}
use Rattle.ledger.specs.Ledger.{with_seen}
use Rattle.ledger.specs.declared.Ledger.{Ledger}
use Rattle.ledger.proofs.Ledger.kind_told.Goals as goal

pub returns-then-kind-eq-COMMIT : goal.returns-then-kind-eq-COMMIT
returns-then-kind-eq-COMMIT c =
    rw (told_commit _ _ _ _ _ _ c.if-kind-eq-COMMIT.true, ← c.commit_touches-touched.ensures) c.entry_told.ensures

pub returns-then-kind-eq-BEGIN : goal.returns-then-kind-eq-BEGIN
returns-then-kind-eq-BEGIN c =
    answered_left _ _ _ _ _ c.with_transaction-begun.ensures c.with_refusal.ensures
    ∙ sym (told_begin _ _ _ _ _ _ c.if-kind-eq-COMMIT.false c.if-kind-eq-BEGIN.true)

pub returns-then-self : goal.returns-then-self
returns-then-self c =
    answered_left _ _ _ _ _ c.with_transaction-same.ensures c.with_refusal-then-self.ensures
    ∙ sym (told_open _ _ _ _ _ _ c.if-kind-eq-COMMIT.false c.if-kind-eq-BEGIN.false c.if-self.true)

pub returns-then-kind-eq-KEEP_ALIVE : goal.returns-then-kind-eq-KEEP_ALIVE
returns-then-kind-eq-KEEP_ALIVE c =
    answered_left _ _ _ _ _ (c.with_seen-seen.ensures ∙ ap (λ (l : Ledger). with_seen c.args.position l) c.with_transaction-same.ensures)
    c.with_refusal-then-kind-eq-KEEP_ALIVE.ensures
    ∙ sym (told_seen _ _ _ _ c.args.self _ c.if-kind-eq-COMMIT.false c.if-kind-eq-BEGIN.false c.if-self.false
    c.if-kind-eq-KEEP_ALIVE.true)

pub returns-then-kind-eq-MESSAGE : goal.returns-then-kind-eq-MESSAGE
returns-then-kind-eq-MESSAGE c =
    c.entry_told-then-kind-eq-MESSAGE.ensures
    ∙ sym (told_message _ _ _ _ _ _ c.if-kind-eq-COMMIT.false c.if-kind-eq-BEGIN.false c.if-self.false c.if-kind-eq-KEEP_ALIVE.false
    c.if-kind-eq-MESSAGE.true)

pub returns : goal.returns
returns c =
    answered_left _ _ _ _ _ c.with_transaction-same.ensures c.with_refusal-2.ensures
    ∙ sym (told_other _ _ _ _ _ _ c.if-kind-eq-COMMIT.false c.if-kind-eq-BEGIN.false c.if-self.false c.if-kind-eq-KEEP_ALIVE.false
    c.if-kind-eq-MESSAGE.false)
