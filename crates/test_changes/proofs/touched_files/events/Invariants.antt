use Rattle.std.proofs.Common.{length}
use Rattle.test_changes.proofs.touched_files.events.Given as goal

abbrev pub decreases-loop-kind : goal.decreases-loop-kind
decreases-loop-kind l = length l.rest
