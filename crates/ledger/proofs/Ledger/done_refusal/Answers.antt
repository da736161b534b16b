-- By the tests.
use borrow.Author.Tests.{eq-eqb, ne_eqb, lt-ltb, le-ltb}
use Rattle.ledger.specs.Ledger.{done_refusal}
use Rattle.ledger.proofs.Ledger.done_refusal.Goals as goal

pub returns-then-self-ne0 : goal.returns-then-self-ne0
unfolding done_refusal
returns-then-self-ne0 c = simp (ne_eqb _ _ c.if-self-ne0.true)

pub returns-then-file-gt-LAST_FILE : goal.returns-then-file-gt-LAST_FILE
unfolding done_refusal
returns-then-file-gt-LAST_FILE c = rw c.number.ensures (simp (eq-eqb _ _ c.if-self-ne0.false, lt-ltb _ _ c.if-file-gt-LAST_FILE.true))

pub returns-then-self-position : goal.returns-then-self-position
unfolding done_refusal
returns-then-self-position c =
    rw c.number-then-self-position.ensures
    (simp (eq-eqb _ _ c.if-self-ne0.false, le-ltb _ _ c.if-file-gt-LAST_FILE.false, lt-ltb _ _ c.if-self-position.true))

pub returns : goal.returns
unfolding done_refusal
returns c =
    simp (eq-eqb _ _ c.if-self-ne0.false, le-ltb _ _ c.if-file-gt-LAST_FILE.false, le-ltb _ _ c.if-self-position.false)
