use borrow.Author.Tests.{eq-eqb, ne_eqb, lt-ltb, le-ltb}
use Rattle.test_lines.proofs.Laws.{pieces_none, pieces_one}
use Rattle.positions.specs.Stored.{turn_texts, turn_held, turn_line}
use Rattle.positions.proofs.stored.turn.Goals as goal

pub returns-then-b-eq10 : goal.returns-then-b-eq10
unfolding turn_texts turn_held turn_line
returns-then-b-eq10 c =
    let t = eq-eqb _ _ c.if-b-eq10.true in
    (simp t, simp t, simp t c.ended-at.ensures)

pub returns-in_default : goal.returns-in_default
unfolding turn_texts turn_held turn_line
returns-in_default c =
    let t = ne_eqb _ _ c.if-b-eq10.false in
    let u = c.in_default.is in
    (simp (t, u), simp (t, u), simp (t, u) (pieces_one _ _ _ c.place-at.ensures))

pub returns-then-n-line : goal.returns-then-n-line
unfolding turn_texts turn_held turn_line
returns-then-n-line c =
    let t = ne_eqb _ _ c.if-b-eq10.false in
    let u = c.in-Some.is in
    let v = lt-ltb _ _ c.if-n-line.true in
    (simp (t, u, v), simp (t, u, v), simp (t, u, v) (pieces_none _ _))

pub returns : goal.returns
unfolding turn_texts turn_held turn_line
returns c =
    let t = ne_eqb _ _ c.if-b-eq10.false in
    let u = c.in-Some.is in
    let v = le-ltb _ _ c.if-n-line.false in
    (simp (t, u, v), simp (t, u, v), simp (t, u, v) c.passed-at.ensures)
