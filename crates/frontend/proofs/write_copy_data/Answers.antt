-- A message of the tag d.
use Rattle.frontend.specs.Frontend.{copy_data}
use Rattle.frontend.proofs.write_copy_data.Goals as goal

pub returns : goal.returns
unfolding copy_data
returns c = c.write_framed.ensures
