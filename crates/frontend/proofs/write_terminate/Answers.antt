-- A message of the tag X without a payload.
use Rattle.frontend.specs.Frontend.{terminate}
use Rattle.frontend.proofs.write_terminate.Goals as goal

pub returns : goal.returns
unfolding terminate
returns c = c.write_framed.ensures
