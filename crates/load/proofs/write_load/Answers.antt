-- The seed is tested, the stream is measured, and where it has room it is filled in.
use native.Mathlib.Omega.{arith}
use borrow.Author.Tests.{eq-eqb, ne_eqb}
use Rattle.error.proofs.Laws.{no_room, wrote, counted_fits, counted_over}
use Rattle.load.specs.Load.{loading}
use Rattle.load.proofs.write_load.Goals as goal

pub returns-then-seed-eq0 : goal.returns-then-seed-eq0
unfolding loading
returns-then-seed-eq0 c = simp (eq-eqb _ _ c.if-seed-eq0.true)

pub returns-in_default : goal.returns-in_default
unfolding loading
returns-in_default c =
    simp (ne_eqb _ _ c.if-seed-eq0.false) (no_room _ _ _ (omega arith) (counted_over _ _ c.measure.ensures c.in_default.is))

pub fill-requires : goal.fill-requires
fill-requires c =
    let f = counted_fits _ _ _ c.measure.ensures c.in-Some.is in
    omega arith

pub returns : goal.returns
unfolding loading
returns c =
    let f = counted_fits _ _ _ c.measure.ensures c.in-Some.is in
    simp (ne_eqb _ _ c.if-seed-eq0.false) (wrote 0 _ _ _ _ (omega arith) f.0 f.1 c.fill.ensures)
