-- The sum is made where it is below the number after the last moment.
use native.Mathlib.Omega.{arith}
use Rattle.schedule.specs.NextStep.{due_of}
use borrow.Author.Tests.{eq-eqb, ne_eqb}
use Rattle.schedule.proofs.due.Goals as goal

pub returns-then-interval-eq0 : goal.returns-then-interval-eq0
unfolding due_of
returns-then-interval-eq0 c = simp (eq-eqb _ _ c.if-interval-eq0.true)

pub returns-then-at-ge-BEYOND : goal.returns-then-at-ge-BEYOND
unfolding due_of
returns-then-at-ge-BEYOND c = simp (ne_eqb _ _ c.if-interval-eq0.false) (omega arith)

pub returns-then-at-interval : goal.returns-then-at-interval
unfolding due_of
returns-then-at-interval c = simp (ne_eqb _ _ c.if-interval-eq0.false) (omega arith)

pub returns : goal.returns
unfolding due_of
returns c =
    simp (ne_eqb _ _ c.if-interval-eq0.false) (omega arith)
