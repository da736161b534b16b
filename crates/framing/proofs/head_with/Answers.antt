-- The leaf was lent the tail.
use Rattle.wire.proofs.Laws.{lent_tail}
use Rattle.framing.proofs.Laws.{copied_all}
use Prim.Native.Nat.{◌-◌}
use native.Mathlib.Omega.{arith}
use lib.ListN.{length-take, length-drop}
use Rattle.framing.proofs.head_with.Goals as goal

pub returns : goal.returns
returns c =
    let a = c.args in
    lent_tail a.header c.copy.new.dst a.src.now a.from (5 - a.from) (omega arith) (copied_all _ a.src.now _ _ (simp (length-take, length-drop) (omega arith)) c.copy.ensures)
