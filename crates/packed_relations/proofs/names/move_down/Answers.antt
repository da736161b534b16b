-- After k turns the first k bytes stand there.
use mathlib.Core.Path.{refl}
use native.Mathlib.Omega.{arith}
use lib.ListN.{length-set}
use Rattle.packed_relations.proofs.Moved.{down_start, down_turn}
use Rattle.packed_relations.proofs.names.move_down.Goals as goal

pub loop-k-init : goal.loop-k-init
loop-k-init c =
    let a = c.args in
    (down_start a.names.now a.from a.to, refl)

pub loop-k-preserved : goal.loop-k-preserved
loop-k-preserved c =
    let a = c.args in (
      down_turn a.names.now a.from a.to c.loop-k.k c.requires.0 (omega (arith, c.requires.1)) c.loop-k.invariant.0,
      simp length-set c.loop-k.invariant.1,
    )
