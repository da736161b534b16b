-- A message of the tag c without a payload.
use Rattle.frontend.specs.Frontend.{copy_done_message}
use Rattle.frontend.proofs.write_copy_done.Goals as goal

pub returns : goal.returns
unfolding copy_done_message
returns c = c.write_framed.ensures
