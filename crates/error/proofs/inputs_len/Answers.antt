-- The names counted and those to come have all bytes together.
use Rattle.error.specs.Inputs.{total}
use Rattle.error.proofs.Laws.{fits, over, total_next, total_end}
use native.Mathlib.Omega.{arith}
use Rattle.error.proofs.inputs_len.Goals as goal

pub returns-then-room-sum : goal.returns-then-room-sum
returns-then-room-sum c =
    let a = c.args in
    let t = total_next a.names.now c.loop-s.s-index c.loop-s-test.true in
    over a.room (total a.names.now) (omega arith)

pub loop-s-preserved : goal.loop-s-preserved
loop-s-preserved c =
    let a = c.args in
    let t = total_next a.names.now c.loop-s.s-index c.loop-s-test.true in
    (omega arith, omega arith)

pub returns : goal.returns
returns c =
    let a = c.args in
    let t = total_end a.names.now c.loop-s.s-index (omega arith) in
    fits a.room (total a.names.now) c.loop-s.sum (omega arith) (omega arith)
