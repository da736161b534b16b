-- A shift is a product or a quotient.
use mathlib.Core.Path.{refl}
use Rattle.load.specs.Xorshift.{next_of}
use Rattle.load.proofs.draw.next.Goals as goal

pub returns : goal.returns
unfolding next_of
returns c = refl
