-- After some bytes acc is the number that they spell.
use mathlib.Core.Path.{sym}
use Prim.Native.Nat.{◌<◌}
use native.Mathlib.Omega.{arith}
use lib.ListN.{length}
use Rattle.wire.proofs.Laws.{be_next, be_none, more, fits}
use Rattle.wire.proofs.field.load_be.Goals as goal

pub loop-b-init : goal.loop-b-init
loop-b-init c = (sym (be_none c.args.bytes.now 0), omega arith)

pub overflow_mul-acc : goal.overflow_mul-acc
overflow_mul-acc c =
    let l = c.loop-b in
    let f = fits l.b-index (length c.args.bytes.now) {a = l.acc} {b = 0} c.loop-b-test.true (omega arith) l.invariant.1 (omega arith) in
    omega arith

pub loop-b-preserved : goal.loop-b-preserved
loop-b-preserved c =
    let l = c.loop-b in
    let byte : c.from.result < 256 = rw c.from.ensures (c.type_inv.bytes l.b-index).fits in
    (rw (l.invariant.0, c.from.ensures) (sym (be_next c.args.bytes.now l.b-index c.loop-b-test.true)), more l.b-index l.invariant.1 byte)
