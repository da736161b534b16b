-- The digits counted and those that are left are those of v, and one.
use Rattle.text.proofs.Laws.{stays, numeral_one, numeral_longer, numeral_length}
use mathlib.Core.Path.{ap}
use native.Mathlib.Omega.{arith}
use lib.ListN.{length}
use Rattle.text.proofs.places.Goals as goal

pub overflow_add-n : goal.overflow_add-n
overflow_add-n c = omega (arith, numeral_length c.args.base 20 c.args.v)

pub loop-x-preserved : goal.loop-x-preserved
loop-x-preserved c =
    let x = c.loop-x.x in
    let g = numeral_longer c.args.base x (omega arith) c.loop-x-test.true c.loop-x.invariant.0 in
    (stays c.args.base x c.loop-x.invariant.0, omega arith)

pub returns : goal.returns
returns c = omega (arith, ap length (numeral_one c.args.base c.loop-x.x c.loop-x-test.false))
