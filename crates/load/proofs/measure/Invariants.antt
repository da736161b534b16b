-- What was measured and what is to come is the whole stream.
use Prim.Native.Nat.{◌+◌, ◌-◌, ◌≤◌}
use mathlib.Core.Path.{◌≡◌}
use lib.ListN.{length}
use Rattle.load.specs.Load.{stream_of}
use Rattle.load.proofs.measure.Given as goal

abbrev pub invariant-loop : goal.invariant-loop
invariant-loop l =
    (l.used + length (stream_of (l.messages - l.counter) l.state) ≡ length (stream_of l.messages l.seed)) × (l.used ≤ l.room)
