-- Display in a buffer of its own, whose front is the value.
use Prim.Native.Nat.{ℕ, ◌^◌, ◌≤◌, ◌<◌}
use native.Mathlib.Omega.{arith}
use lib.ListN.{length}
use Rattle.lsn.specs.Position.{display_of}
use Rattle.page.proofs.Laws.{stored, display_short}
use Rattle.page.proofs.place_position.Goals as goal

short : (p : ℕ) → p < 2 ^ 64 → length (display_of p) ≤ 20
short p h = omega (arith, display_short p h)

pub slice_bounds-value-end : goal.slice_bounds-value-end
slice_bounds-value-end c =
    let l : length (display_of c.args.p.0) ≤ 20 = short c.args.p.0 (omega arith) in
    omega (arith, l, (stored _ _ l c.place-n.ensures).0)

pub slice_bounds-place_line-end : goal.slice_bounds-place_line-end
slice_bounds-place_line-end c =
    let l : length (display_of c.args.p.0) ≤ 20 = short c.args.p.0 (omega arith) in
    let s = stored _ _ l c.place-n.ensures in
    rw s.1 (omega (arith, s.0))

pub place_line-requires : goal.place_line-requires
place_line-requires c =
    let l : length (display_of c.args.p.0) ≤ 20 = short c.args.p.0 (omega arith) in
    (c.requires, rw (stored _ _ l c.place-n.ensures).1 l)

pub returns : goal.returns
returns c =
    let l : length (display_of c.args.p.0) ≤ 20 = short c.args.p.0 (omega arith) in
    rw (stored _ _ l c.place-n.ensures).1 at c.place_line.ensures
