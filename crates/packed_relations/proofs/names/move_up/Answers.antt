-- With k bytes to go, those behind them stand there.
use mathlib.Core.Path.{refl}
use native.Mathlib.Omega.{arith}
use lib.ListN.{length-set}
use Rattle.packed_relations.proofs.Moved.{up_start, up_step}
use Rattle.packed_relations.proofs.names.move_up.Goals as goal

pub loop-k-init : goal.loop-k-init
loop-k-init c =
    let a = c.args in
    (omega arith, up_start a.names.now a.from a.to a.n, refl)

pub loop-k-preserved : goal.loop-k-preserved
loop-k-preserved c =
    let a = c.args in (
      omega arith,
      up_step a.names.now a.from a.to c.loop-k.k a.n (omega arith) c.loop-k.invariant.0 c.requires.0 c.requires.1 c.loop-k.invariant.1,
      simp length-set c.loop-k.invariant.2,
    )
