use Rattle.test_lines.specs.Line.{part_texts}
use Prim.Native.Nat.{◌+◌, ◌-◌}
use mathlib.Core.Path.{◌≡◌}
use native.Mathlib.Omega.{arith}
use Rattle.test_lines.proofs.part.Goals as goal

pub returns-then-not-within : goal.returns-then-not-within
unfolding part_texts
returns-then-not-within c = rw (← c.within.ensures, c.if-not-within.true) c.outside.ensures

pub returns : goal.returns
unfolding part_texts
returns c =
    let a = c.args in
    let n : a.from + a.len - a.from ≡ a.len = omega arith in
    rw (← c.within.ensures, c.if-not-within.false) (rw n at c.bytes.ensures)
