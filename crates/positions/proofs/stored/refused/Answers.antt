use mathlib.Core.List.{[], ◌∷◌}
use Rattle.test_lines.proofs.Laws.{pieces_one, pieces_two, pieces_next}
use Rattle.positions.proofs.stored.refused.Goals as goal

pub returns : goal.returns
returns c =
    pieces_next _ _ _ (_ ∷ []) (pieces_two _ _ _ _ c.place_decimal-a.ensures c.place-b.ensures)
    (pieces_one _ _ _ c.place.ensures)
