-- The text is written where the length that was counted fits after the place.
use Rattle.std.proofs.Common.{rules}
use Rattle.wire.proofs.Laws.{unplaced, placed_at}
use Rattle.error.proofs.Laws.{counted_fits, counted_over}
use native.Mathlib.Omega.{arith}
use Rattle.lossy.proofs.place.Goals as goal

pub returns-then-out-to : goal.returns-then-out-to
returns-then-out-to c = unplaced _ _ _ (omega arith)

pub returns-in_default : goal.returns-in_default
returns-in_default c =
    let h = counted_over _ _ c.count.ensures c.in_default.is in
    unplaced _ _ _ (omega arith)

pub fill-requires : goal.fill-requires
fill-requires c = let h = counted_fits _ _ _ c.count.ensures c.in-Some.is in (omega arith, search rules)

pub overflow_add-result : goal.overflow_add-result
overflow_add-result c =
    omega (arith, (counted_fits _ _ _ c.count.ensures c.in-Some.is).1)

pub returns : goal.returns
returns c =
    let h = counted_fits _ _ _ c.count.ensures c.in-Some.is in
    placed_at _ _ _ _ _ h.0 (omega arith) c.fill.ensures
