-- With k bytes to go, those behind them stand there.
use mathlib.Core.Path.{◌≡◌}
use Prim.Native.Nat.{◌+◌, ◌-◌, ◌≤◌}
use lib.ListN.{length}
use Rattle.wire.specs.Bytes.{at, put}
use Rattle.packed_relations.proofs.names.move_up.Given as goal

abbrev pub invariant-loop-k : goal.invariant-loop-k
invariant-loop-k l = (l.k ≤ l.n) × (l.names ≡ put l.initial.names (l.to + l.k) (at l.initial.names (l.from + l.k) (l.n - l.k))) × (length l.names ≡ length l.initial.names)

abbrev pub decreases-loop-k : goal.decreases-loop-k
decreases-loop-k l = l.k
