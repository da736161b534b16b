-- What is passed is well-formed, part after part.
use Rattle.lossy.proofs.Turns.{passed_part}
use native.Mathlib.Omega.{arith}
use borrow.Author.Tests.{not-false}
use Rattle.lossy.proofs.parts_from.Goals as goal

pub loop-i-preserved : goal.loop-i-preserved
loop-i-preserved g c =
    let w = c.find-p in
    let found = c.requires.2.answers c.loop-i.i w.result (omega arith) w.ensures in
    passed_part _ _ _ w.result c.loop-i.invariant.1 (omega arith) found (not-false _ c.if-not-p.false)
