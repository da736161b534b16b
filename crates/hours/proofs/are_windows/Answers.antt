-- The windows of the days passed are right.
use mathlib.Core.Path.{◌≡◌, refl, sym}
use native.Mathlib.Omega.{arith}
use Rattle.hours.specs.Calendar.{are_windows}
use Rattle.hours.proofs.Laws.{window_late, window_long, window_right, windows_next, windows_wrong}
use Rattle.hours.proofs.are_windows.Goals as goal

pub loop-day-init : goal.loop-day-init
unfolding are_windows
loop-day-init c = refl

pub returns-then-closes-day : goal.returns-then-closes-day
returns-then-closes-day c =
    let day = c.loop-day.day in
    sym (windows_wrong _ _ 7 day (omega arith) (window_late _ _ c.if-closes-day.true))

pub returns-then-closes-day-gt1440 : goal.returns-then-closes-day-gt1440
returns-then-closes-day-gt1440 c =
    let day = c.loop-day.day in
    sym (windows_wrong _ _ 7 day (omega arith) (window_long _ _ c.if-closes-day-gt1440.true))

pub loop-day-preserved : goal.loop-day-preserved
loop-day-preserved c =
    let l = c.loop-day in
    windows_next _ _ l.day l.invariant (window_right _ _ c.if-closes-day.false c.if-closes-day-gt1440.false)

pub returns : goal.returns
returns c =
    let l = c.loop-day in
    let e : l.day ≡ 7 = omega arith in
    sym (rw e at l.invariant)
