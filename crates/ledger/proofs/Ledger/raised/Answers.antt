-- By the file's number.
use borrow.Author.Tests.{eq-eqb, ne_eqb}
use Rattle.ledger.specs.Ledger.{raised_in}
use Rattle.ledger.proofs.Ledger.raised.Goals as goal

pub returns-then-file-eq0 : goal.returns-then-file-eq0
unfolding raised_in
returns-then-file-eq0 c = rw c.larger-at.ensures (simp (eq-eqb _ _ c.if-file-eq0.true))

pub returns-then-file-eq1 : goal.returns-then-file-eq1
unfolding raised_in
returns-then-file-eq1 c = rw c.larger-at-then-file-eq1.ensures (simp (ne_eqb _ _ c.if-file-eq0.false, eq-eqb _ _ c.if-file-eq1.true))

pub returns-then-file-eq2 : goal.returns-then-file-eq2
unfolding raised_in
returns-then-file-eq2 c =
    rw c.larger-at-then-file-eq2.ensures (simp (ne_eqb _ _ c.if-file-eq0.false, ne_eqb _ _ c.if-file-eq1.false, eq-eqb _ _ c.if-file-eq2.true))

pub returns : goal.returns
unfolding raised_in
returns c =
    rw c.larger-at-2.ensures (simp (ne_eqb _ _ c.if-file-eq0.false, ne_eqb _ _ c.if-file-eq1.false, ne_eqb _ _ c.if-file-eq2.false))
