-- After some bytes acc is the number that they spell.
use mathlib.Core.Path.{◌≡◌}
use Prim.Native.Nat.{◌<◌, ◌^◌}
use lib.ListN.{take}
use Rattle.wire.specs.Bytes.{be}
use Rattle.wire.proofs.field.load_be.Given as goal

abbrev pub invariant-loop-b : goal.invariant-loop-b
invariant-loop-b l = (l.acc ≡ be (take l.b-index l.bytes)) × (l.acc < 256 ^ l.b-index)
