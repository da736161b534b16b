-- Each array is stored whole.
use mathlib.Core.Path.{refl}
use Rattle.packed_relations.specs.Packed.{emptied}
use Rattle.packed_relations.proofs.clear.Goals as goal

pub returns : goal.returns
unfolding emptied
returns c = refl
