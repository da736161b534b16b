use Rattle.std.proofs.Common.{◌∙◌}
use Rattle.worker.proofs.deliver.offers_at.Goals as goal

pub returns : goal.returns
returns c = λ l. c.moved.ensures l ∙ rw (c.offers.ensures, c.reaches.ensures)
