-- With i bytes to go, the i lowest bytes of x written over dst give what is asked.
use mathlib.Core.Path.{◌≡◌, refl, sym, ◌∙◌}
use native.Mathlib.Omega.{arith}
use Rattle.wire.specs.Bytes.{be_bytes}
use Rattle.wire.proofs.Laws.{put_turn, put_none}
use Rattle.wire.proofs.store.store_be.Goals as goal

pub loop-i-init : goal.loop-i-init
loop-i-init c = refl

pub loop-i-preserved : goal.loop-i-preserved
loop-i-preserved c =
    let a = c.args in
    put_turn c.loop-i.dst a.dst.now a.to c.loop-i.i c.loop-i.x _ c.loop-i-test.true (omega arith) c.loop-i.invariant

pub returns : goal.returns
unfolding be_bytes
returns c =
    let e : c.loop-i.i ≡ 0 = omega arith in
    sym (put_none c.loop-i.dst c.args.to) ∙ (rw e at c.loop-i.invariant)
