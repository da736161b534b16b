-- The length first, then a turn for each digit: what is read so far, with the digits to come, is the part.
use mathlib.Core.Path.{◌≡◌}
use Prim.Native.Nat.{◌≤◌, ◌<◌, ◌^◌}
use lib.ListN.{length, drop}
use Rattle.lsn.specs.Hex.{value_from, hex_part}
use Rattle.lsn.proofs.hex.part.Given as goal

abbrev pub invariant-loop-c : goal.invariant-loop-c
invariant-loop-c l = (value_from l.v (drop l.c-index l.s) ≡ hex_part l.s) × (l.v < 16 ^ l.c-index) × (length l.s ≤ 8)
