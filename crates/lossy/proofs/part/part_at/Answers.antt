-- The lead is the row of the byte at the place, and the bytes that follow are those of its trail.
use mathlib.Core.Path.{refl}
use lib.Seq.{length-take-le}
use lib.ListN.{drop}
use Rattle.utf8.specs.WellFormed.{matched}
use Rattle.lossy.specs.Code.{trail}
use Rattle.lossy.proofs.Table.{at_begun}
use Prim.Native.Nat.{◌+◌}
use native.Mathlib.Omega.{arith}
use Rattle.lossy.proofs.part.part_at.Goals as goal

pub returns : goal.returns
returns c =
    let a = c.args in
    let l = c.in-Some.l in
    let e = rw c.in-Some.is at c.lead_of.ensures in
    let n = matched (trail l) (drop (a.at + 1) a.s.now) in
    rw c.follow.ensures (at_begun a.s.now a.at (omega arith) (trail l) e.0 n l.due refl refl (length-take-le l.due _ e.1))
