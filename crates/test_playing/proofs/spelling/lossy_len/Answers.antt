-- A part that is not there has no text.
use Prim.Native.Nat.{◌+◌, ◌-◌}
use mathlib.Core.Path.{◌≡◌}
use native.Mathlib.Omega.{arith}
use Rattle.test_playing.specs.Spelling.{lossy_length}
use Rattle.test_playing.proofs.Laws.{or_nothing}
use Rattle.test_playing.proofs.spelling.lossy_len.Goals as goal

pub returns-then-not-within : goal.returns-then-not-within
unfolding lossy_length
returns-then-not-within c = rw (← c.within.ensures, c.if-not-within.true)

pub returns : goal.returns
unfolding lossy_length
returns c =
    let a = c.args in
    let n : a.from + a.len - a.from ≡ a.len = omega arith in
    rw (← c.within.ensures, c.if-not-within.false, ← (rw n at c.count.ensures)) (rw (← or_nothing) c.unwrap_or.ensures)
