-- By the event's kind.
use Rattle.touched.specs.Words.{told_by}
use borrow.Author.Tests.{ne_eqb}
use Rattle.touched.proofs.words.tells_by.Goals as goal

pub returns-then-kind-eq-BEGIN : goal.returns-then-kind-eq-BEGIN
unfolding told_by
returns-then-kind-eq-BEGIN c = λ s. rw c.if-kind-eq-BEGIN.true

pub returns-then-kind-eq-XLOG_DATA : goal.returns-then-kind-eq-XLOG_DATA
unfolding told_by
returns-then-kind-eq-XLOG_DATA c = λ s. rw c.if-kind-eq-XLOG_DATA.true

pub returns : goal.returns
unfolding told_by
returns c = λ s. rw (ne_eqb _ _ c.if-kind-eq-BEGIN.false, ne_eqb _ _ c.if-kind-eq-XLOG_DATA.false)
