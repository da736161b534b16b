-- After i turns dst is the first i bytes of src and then its own.
use mathlib.Core.Path.{refl}
use native.Mathlib.Omega.{arith}
use lib.ListN.{length-set}
use Rattle.wire.proofs.Laws.{copy_turn, copy_done}
use Rattle.wire.proofs.store.copy_all.Goals as goal

pub loop-i-init : goal.loop-i-init
loop-i-init c = (refl, refl)

pub loop-i-preserved : goal.loop-i-preserved
loop-i-preserved c =
    let a = c.args in
    (copy_turn a.src.now c.loop-i.dst a.dst.now c.loop-i.i (omega arith) (omega arith) c.loop-i.invariant.0, simp length-set c.loop-i.invariant.1)

pub shape_of-dst : goal.shape_of-dst
shape_of-dst c = c.loop-i.invariant.1

pub returns : goal.returns
returns c =
    let a = c.args in
    copy_done a.src.now c.loop-i.dst a.dst.now c.loop-i.i (omega arith) c.loop-i.invariant.0
