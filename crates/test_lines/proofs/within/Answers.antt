use borrow.Author.Tests.{lt-leb}
use lib.ListN.{length}
use Prim.Native.Nat.{◌+◌}
use native.Mathlib.Omega.{arith}
use Rattle.test_lines.proofs.Laws.{within_rest}
use Rattle.test_lines.proofs.within.Goals as goal

pub returns-then-from-s : goal.returns-then-from-s
returns-then-from-s c = within_rest _ _ _ c.if-from-s.true

pub returns-else-from-s : goal.returns-else-from-s
returns-else-from-s c =
    let a = c.args in
    let n = length a.s.now in
    rw (lt-leb a.from n c.if-from-s.false, lt-leb (a.from + a.len) n (omega arith))
