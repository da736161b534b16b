-- A comma stands before each name but the first.
use Rattle.config.proofs.Laws.{comma_first, comma_later}
use Rattle.wire.proofs.Laws.{put_one, placed_at}
use Rattle.wire.proofs.Pieces.{filling_start, filling_end}
use Prim.Native.Nat.{◌+◌, ◌≤◌}
use mathlib.Core.Path.{refl, ap}
use mathlib.Core.List.{[], ◌∷◌}
use native.Mathlib.Omega.{arith}
use lib.ListN.{length}
use Rattle.config.proofs.put_comma.Goals as goal

pub returns-then-i-eq0 : goal.returns-then-i-eq0
returns-then-i-eq0 c =
    let h : c.args.at + 0 ≤ length c.args.out.now = omega (arith, c.requires) in
    rw (comma_first c.args.i c.if-i-eq0.true) (filling_end h (filling_start refl))

pub returns : goal.returns
returns c =
    let a = c.args in
    let q = comma_later a.i c.if-i-eq0.false in
    let h : a.at + 1 ≤ length a.out.now = omega (arith, ap length q) in
    rw q (placed_at a.out.now a.at 1 (44 ∷ []) _ refl h (put_one a.out.now a.at 44 (omega arith)))
