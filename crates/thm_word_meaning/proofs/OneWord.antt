-- One word as the code makes it is the word of its literal.
use mathlib.Core.Path.{◌≡◌, refl}
use mathlib.Core.Bool.{Bool, true, false}
use lib.IntN.{ℤ, pos, negsuc}
use Rattle.wire.specs.Bytes.{flag_word}
use Rattle.wire.specs.Field.{unsigned}
use Rattle.wire.specs.Int.{value}
use Rattle.thm_host_calls.specs.HostWords.{flag, twos}

pub flag_is : (b : Bool) → flag_word b ≡ flag b
flag_is true = refl
flag_is false = refl

pub time_is : (z : ℤ) → value 8 z ≡ twos z
unfolding unsigned
time_is (pos n) = refl
time_is (negsuc n) = refl
