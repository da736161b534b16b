-- The messages written and those to come are the whole stream.
use Rattle.wire.proofs.Pieces.{Filling}
use Prim.Native.Nat.{◌-◌}
use Rattle.load.specs.Load.{stream_of}
use Rattle.load.proofs.fill.Given as goal

abbrev pub invariant-loop : goal.invariant-loop
invariant-loop l = Filling l.initial.out 0 (stream_of l.messages l.seed) l.out l.at (stream_of (l.messages - l.counter) l.state)
