use Rattle.test_lines.proofs.Laws.{pieces_one}
use Rattle.test_lines.proofs.end.Goals as goal

pub returns : goal.returns
returns c = pieces_one _ _ _ c.place.ensures
