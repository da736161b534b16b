use mathlib.Core.List.{[], ◌∷◌}
use Rattle.test_lines.proofs.Laws.{pieces_one, pieces_next}
use Rattle.positions.proofs.stored.passed.Goals as goal

pub returns : goal.returns
returns c =
    pieces_next _ _ _ (_ ∷ []) c.shown-a.ensures (pieces_one _ _ _ c.place.ensures)
