-- A single quote is stored twice.
use Rattle.config.proofs.Laws.{quote, plain}
use Rattle.wire.proofs.Laws.{put_one, put_two, placed_at}
use Prim.Native.Nat.{◌+◌, ◌≤◌}
use mathlib.Core.Path.{refl, ap}
use mathlib.Core.List.{[], ◌∷◌}
use native.Mathlib.Omega.{arith}
use lib.ListN.{length}
use Rattle.config.proofs.put_byte.Goals as goal

pub returns-then-c-eq39 : goal.returns-then-c-eq39
returns-then-c-eq39 c =
    let a = c.args in
    let q = quote a.c c.if-c-eq39.true in
    let h : a.at + 2 ≤ length a.out.now = omega (arith, ap length q) in
    rw q (placed_at a.out.now a.at 2 (a.c ∷ a.c ∷ []) _ refl h (put_two a.out.now a.at a.c a.c (omega arith)))

pub returns : goal.returns
returns c =
    let a = c.args in
    let q = plain a.c c.if-c-eq39.false in
    let h : a.at + 1 ≤ length a.out.now = omega (arith, ap length q) in
    rw q (placed_at a.out.now a.at 1 (a.c ∷ []) _ refl h (put_one a.out.now a.at a.c (omega arith)))
