-- The sum of what the tests answer.
use native.Mathlib.Omega.{arith}
use Rattle.lossy.specs.Wide.{unfits}
use Rattle.lossy.proofs.wide.unfit.Goals as goal

pub returns : goal.returns
unfolding unfits
returns c =
    let n = c.is_nowhere.ensures in
    let o = c.is_over-2.ensures in
    let u = c.is_under-2.ensures in
    let p = c.is_over.ensures in
    let v = c.is_under.ensures in
    let a = c.is_apart.ensures in
    (rw (a.0, v.0, p.0, u.0, o.0, n.0), omega arith)
