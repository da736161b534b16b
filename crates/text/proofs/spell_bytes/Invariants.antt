-- The digits of the bytes that are left, written over out, give what is asked.
use Rattle.text.specs.Numeral.{hex_bytes}
use Rattle.wire.specs.Bytes.{put}
use Prim.Native.Nat.{◌+◌, ◌*◌}
use mathlib.Core.Path.{◌≡◌}
use lib.ListN.{length, drop}
use Rattle.text.proofs.spell_bytes.Given as goal

abbrev pub invariant-loop-b : goal.invariant-loop-b
invariant-loop-b l = (l.at ≡ l.to + l.b-index * 2) × (put l.out l.at (hex_bytes (drop l.b-index l.s)) ≡ put l.initial.out l.to (hex_bytes l.s)) × (length l.out ≡ length l.initial.out)
