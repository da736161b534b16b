-- In all minutes walked over the state is that of the first.
use Prim.Native.Nat.{ℕ, ◌-◌, ◌≤◌}
use Rattle.hours.proofs.Laws.{Same}
use Rattle.hours.proofs.minutes_to_change.Given as goal

abbrev pub invariant-loop-walked : goal.invariant-loop-walked
invariant-loop-walked l = (l.walked ≤ 11520) × ((i : ℕ) → i ≤ l.walked → Same l.hours l.m i)

abbrev pub decreases-loop-walked : goal.decreases-loop-walked
decreases-loop-walked l = 10080 - l.walked
