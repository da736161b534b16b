-- The names counted and those to come are as long as the value.
use Rattle.config.specs.OptionValue.{option_value}
use Rattle.error.proofs.Laws.{fits, over, counted_fits, counted_over}
use Rattle.config.proofs.Laws.{listed_start, listed_length, listed_end}
use mathlib.Core.Path.{ap}
use native.Mathlib.Omega.{arith}
use lib.ListN.{length}
use Rattle.config.proofs.count.Goals as goal

pub loop-i-init : goal.loop-i-init
loop-i-init c = (omega arith, omega (arith, ap length (listed_start c.args.names.now)))

pub returns-then-room-need : goal.returns-then-room-need
returns-then-room-need c =
    let a = c.args in
    let t = listed_length a.names.now c.loop-i.i (omega arith) in
    over a.room (length (option_value a.names.now)) (omega arith)

pub returns-in_err-need : goal.returns-in_err-need
returns-in_err-need c =
    let a = c.args in
    let t = listed_length a.names.now c.loop-i.i (omega arith) in
    let f = counted_over _ _ c.count_name.ensures c.in_err-need.was in
    rw c.from_residual.ensures (over a.room (length (option_value a.names.now)) (omega arith))

pub overflow_add-need : goal.overflow_add-need
overflow_add-need c = let f = counted_fits _ _ _ c.count_name.ensures c.in_ok-need.was in omega arith

pub overflow_add-need-in-loop-i : goal.overflow_add-need-in-loop-i
overflow_add-need-in-loop-i c = let f = counted_fits _ _ _ c.count_name.ensures c.in_ok-need.was in omega arith

pub loop-i-preserved : goal.loop-i-preserved
loop-i-preserved c =
    let f = counted_fits _ _ _ c.count_name.ensures c.in_ok-need.was in
    let t = listed_length c.args.names.now c.loop-i.i (omega arith) in
    (omega arith, omega arith)

pub returns : goal.returns
returns c =
    let a = c.args in
    let t = ap length (listed_end a.names.now c.loop-i.i (omega arith)) in
    fits a.room (length (option_value a.names.now)) c.loop-i.need (omega arith) (omega arith)
