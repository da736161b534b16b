use Rattle.test_lines.proofs.Laws.{sum_start, sum_turn, sum_end}
use native.Mathlib.Omega.{arith}
use Rattle.test_lines.proofs.sum.Goals as goal

pub loop-b-init : goal.loop-b-init
loop-b-init c = (omega arith, sum_start _)

pub loop-b-preserved : goal.loop-b-preserved
loop-b-preserved c =
    let l = c.loop-b in
    let e = c.next-h.ensures in
    (omega arith, rw e (sum_turn c.args.s.now l.h l.b-index _ (omega arith) l.invariant.1))

pub returns : goal.returns
returns c =
    let l = c.loop-b in
    sum_end _ l.h l.b-index _ (omega arith) l.invariant.1
