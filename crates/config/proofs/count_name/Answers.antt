-- The bytes counted and those to come are as long as the name with its quotes doubled.
use Rattle.config.specs.OptionValue.{doubled}
use Rattle.error.proofs.Laws.{fits, over}
use Rattle.config.proofs.Laws.{doubled_length, doubled_end}
use mathlib.Core.Path.{ap}
use native.Mathlib.Omega.{arith}
use lib.ListN.{length}
use Rattle.config.proofs.count_name.Goals as goal

pub returns-then-room-need : goal.returns-then-room-need
returns-then-room-need c =
    let a = c.args in
    let t = doubled_length a.s.now c.loop-c.c-index (omega arith) in
    over a.room (length (doubled a.s.now)) (omega arith)

pub loop-c-preserved : goal.loop-c-preserved
loop-c-preserved c =
    let a = c.args in
    let t = doubled_length a.s.now c.loop-c.c-index (omega arith) in
    (omega arith, omega arith)

pub returns : goal.returns
returns c =
    let a = c.args in
    let t = ap length (doubled_end a.s.now c.loop-c.c-index (omega arith)) in
    fits a.room (length (doubled a.s.now)) c.loop-c.need (omega arith) (omega arith)
