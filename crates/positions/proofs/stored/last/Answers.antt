use borrow.Author.Tests.{eq-eqb, ne_eqb}
use Rattle.test_lines.proofs.Laws.{pieces_none}
use Rattle.positions.specs.Stored.{last_texts}
use Rattle.positions.proofs.stored.last.Goals as goal

pub returns-in_default : goal.returns-in_default
unfolding last_texts
returns-in_default c = rw c.in_default.is c.end.ensures

pub returns-then-n-eq0 : goal.returns-then-n-eq0
unfolding last_texts
returns-then-n-eq0 c = simp (c.in-Some.is, eq-eqb _ _ c.if-n-eq0.true) (pieces_none _ _)

pub returns : goal.returns
unfolding last_texts
returns c = simp (c.in-Some.is, ne_eqb _ _ c.if-n-eq0.false) c.ended.ensures
