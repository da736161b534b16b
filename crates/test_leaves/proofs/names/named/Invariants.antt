-- Each name shortens what is left of the input.
use Rattle.std.proofs.Common.{◌≤◌, length}
use Rattle.test_leaves.proofs.names.named.Given as goal

abbrev pub invariant-loop-rest : goal.invariant-loop-rest
invariant-loop-rest l = l.n ≤ 32768

abbrev pub decreases-loop-rest : goal.decreases-loop-rest
decreases-loop-rest l = length l.rest
