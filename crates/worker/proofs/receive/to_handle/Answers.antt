use Rattle.std.proofs.Common.{◌∙◌}
use Rattle.worker.proofs.receive.to_handle.Goals as goal

pub returns : goal.returns
returns c = λ l. c.moved.ensures l ∙ rw (c.with_state.ensures, c.with_whole.ensures)
