use Rattle.test_lines.proofs.Laws.{pieces_two}
use Rattle.test_lines.proofs.number.Goals as goal

pub returns : goal.returns
returns c =
    pieces_two _ _ _ _ c.place-a.ensures c.place_decimal.ensures
