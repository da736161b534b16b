-- What is left of the lossy text, put where the loop stands, gives what is asked, a stretch and the mark after it at a time.
use Rattle.wire.proofs.Pieces.{Filling}
use Rattle.lossy.specs.Lossy.{lossy_of}
use Prim.Native.Nat.{◌≤◌, ◌-◌}
use lib.ListN.{length, drop}
use Rattle.lossy.proofs.fill.Given as goal

abbrev pub invariant-loop-i : goal.invariant-loop-i
invariant-loop-i g l =
    (l.i ≤ length l.text) × Filling l.initial.out l.to (lossy_of l.text) l.out l.at (lossy_of (drop l.i l.text))

abbrev pub decreases-loop-i : goal.decreases-loop-i
decreases-loop-i g l = length l.text - l.i
