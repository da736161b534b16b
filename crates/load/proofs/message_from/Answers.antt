-- One draw after the other; which message they are by the first.
use mathlib.Core.Path.{◌∙◌}
use Rattle.load.proofs.Laws.{keep_alive_made, other_made, begin_made, commit_made}
use Rattle.load.proofs.message_from.Goals as goal

pub returns-then-kind-eq0 : goal.returns-then-kind-eq0
returns-then-kind-eq0 c =
    c.keep_alive.ensures
    ∙ keep_alive_made _ _ _ _ c.next-kind.ensures c.next-a.ensures c.next-b.ensures c.if-kind-eq0.true

pub returns-then-kind-eq2 : goal.returns-then-kind-eq2
returns-then-kind-eq2 c =
    c.other.ensures
    ∙ other_made _ _ _ _ _ c.next-kind.ensures c.next-a.ensures c.next-b.ensures c.next-c.ensures c.if-kind-eq2.true

pub returns-then-kind-eq1 : goal.returns-then-kind-eq1
returns-then-kind-eq1 c =
    c.begin.ensures
    ∙ begin_made _ _ _ _ _ _ c.next-kind.ensures c.next-a.ensures c.next-b.ensures c.next-c.ensures
    c.next-d.ensures c.if-kind-eq1.true

pub returns : goal.returns
returns c =
    c.commit.ensures
    ∙ commit_made _ _ _ _ _ _ c.next-kind.ensures c.next-a.ensures c.next-b.ensures c.next-c.ensures
    c.next-d.ensures c.if-kind-eq0.false c.if-kind-eq2.false c.if-kind-eq1.false
