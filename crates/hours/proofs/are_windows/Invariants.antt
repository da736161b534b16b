-- The windows of the days passed are right.
use mathlib.Core.Path.{◌≡◌}
use mathlib.Core.Bool.{true}
use Rattle.hours.specs.Calendar.{are_windows}
use Rattle.hours.proofs.are_windows.Given as goal

abbrev pub invariant-loop-day : goal.invariant-loop-day
invariant-loop-day l = are_windows l.opens l.closes l.day ≡ true
