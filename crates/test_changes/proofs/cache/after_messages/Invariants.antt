use Rattle.std.proofs.Common.{length}
use Rattle.test_changes.proofs.cache.after_messages.Given as goal

abbrev pub decreases-loop-message : goal.decreases-loop-message
decreases-loop-message l = length l.rest
