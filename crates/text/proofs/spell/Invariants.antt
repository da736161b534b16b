-- With i digits to go, the i digits of x written over out give what is asked.
use Rattle.text.specs.Numeral.{numeral}
use Rattle.wire.specs.Bytes.{put}
use Prim.Native.Nat.{◌<◌, ◌^◌}
use mathlib.Core.Path.{◌≡◌}
use lib.ListN.{length}
use Rattle.text.proofs.spell.Given as goal

abbrev pub invariant-loop-i : goal.invariant-loop-i
invariant-loop-i l = (l.x < l.base ^ 20) × (l.i ≡ length (numeral l.base 20 l.x)) × (put l.out l.to (numeral l.base 20 l.x) ≡ put l.initial.out l.to (numeral l.base 20 l.v)) × (length l.out ≡ length l.initial.out)
