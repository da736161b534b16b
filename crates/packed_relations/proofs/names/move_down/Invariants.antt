-- After k turns the first k bytes stand there.
use mathlib.Core.Path.{◌≡◌}
use lib.ListN.{length}
use Rattle.wire.specs.Bytes.{at, put}
use Rattle.packed_relations.proofs.names.move_down.Given as goal

abbrev pub invariant-loop-k : goal.invariant-loop-k
invariant-loop-k l = (l.names ≡ put l.initial.names l.to (at l.initial.names l.from l.k)) × (length l.names ≡ length l.initial.names)
