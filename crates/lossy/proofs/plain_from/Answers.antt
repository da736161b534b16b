-- A walk to the end of the text.
use Rattle.lossy.proofs.Turns.{walked_stretch}
use Rattle.lossy.proofs.plain_from.Goals as goal

pub returns : goal.returns
returns c = walked_stretch _ _ _ c.parts_from.ensures
