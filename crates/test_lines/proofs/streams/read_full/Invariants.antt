-- What came stands at the front.
use Rattle.std.proofs.Common.{◌-◌, ◌≤◌, length}
use Rattle.test_lines.proofs.streams.read_full.Given as goal

abbrev pub invariant-loop-done : goal.invariant-loop-done
invariant-loop-done l = l.done ≤ length l.s

abbrev pub decreases-loop-done : goal.decreases-loop-done
decreases-loop-done l = length l.s - l.done
