-- What is counted and what is left make the whole length, and so do the marks, a stretch and the mark after it at a time.
use Rattle.lossy.specs.Lossy.{lossy_of}
use Rattle.lossy.specs.Marks.{marks_of}
use Prim.Native.Nat.{◌≤◌, ◌+◌, ◌-◌}
use mathlib.Core.Path.{◌≡◌}
use lib.ListN.{length, drop}
-- no more marks than bytes are behind the loop, so their count has room
use Rattle.lossy.proofs.measure_by.Given as goal

abbrev pub invariant-loop-i : goal.invariant-loop-i
invariant-loop-i g l =
    (l.i ≤ length l.text) × (l.bytes + length (lossy_of (drop l.i l.text)) ≡ length (lossy_of l.text)) × (l.bytes ≤ l.room)
    × (l.marks + marks_of (drop l.i l.text) ≡ marks_of l.text) × (l.marks ≤ l.i)

abbrev pub decreases-loop-i : goal.decreases-loop-i
decreases-loop-i g l = length l.text - l.i
