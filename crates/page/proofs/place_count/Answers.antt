-- The digits in a buffer of their own, whose front is the value.
use Prim.Native.Nat.{ℕ, ◌≤◌}
use native.Mathlib.Omega.{arith}
use lib.ListN.{length}
use Rattle.text.specs.Numeral.{decimal_text}
use Rattle.text.proofs.Laws.{numeral_length}
use Rattle.page.proofs.Laws.{stored}
use Rattle.page.proofs.place_count.Goals as goal

short : (n : ℕ) → length (decimal_text n) ≤ 20
short n = numeral_length 10 20 n

pub slice_bounds-value-end : goal.slice_bounds-value-end
slice_bounds-value-end c =
    let n = c.args.n in
    omega (arith, short n, (stored _ _ (short n) c.place_decimal-k.ensures).0)

pub slice_bounds-place_line-end : goal.slice_bounds-place_line-end
slice_bounds-place_line-end c =
    let n = c.args.n in
    let s = stored _ _ (short n) c.place_decimal-k.ensures in
    rw s.1 (omega (arith, s.0))

pub place_line-requires : goal.place_line-requires
place_line-requires c =
    let s = stored _ _ (short c.args.n) c.place_decimal-k.ensures in
    (c.requires, rw s.1 (short c.args.n))

pub returns : goal.returns
returns c =
    rw (stored _ _ (short c.args.n) c.place_decimal-k.ensures).1 at c.place_line.ensures
