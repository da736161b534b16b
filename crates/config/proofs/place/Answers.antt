-- Where the value is counted into what is left of the output, it is filled in there.
use Rattle.wire.proofs.Laws.{unplaced}
use Rattle.error.proofs.Laws.{counted_fits, counted_over}
use native.Mathlib.Omega.{arith}
use Rattle.config.proofs.place.Goals as goal

pub returns-then-out-to : goal.returns-then-out-to
returns-then-out-to c = unplaced _ _ _ (omega arith)

pub returns-in_default : goal.returns-in_default
returns-in_default c =
    let f = counted_over _ _ c.count.ensures c.in_default.is in
    unplaced _ _ _ (omega arith)

pub fill-requires : goal.fill-requires
fill-requires c =
    let f = counted_fits _ _ _ c.count.ensures c.in-Some.is in
    omega arith
