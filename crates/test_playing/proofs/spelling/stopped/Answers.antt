use mathlib.Core.List.{[], ◌∷◌}
use Rattle.test_lines.proofs.Laws.{pieces_one, pieces_next}
use Rattle.test_playing.proofs.spelling.stopped.Goals as goal

pub returns : goal.returns
returns c =
    pieces_next _ _ ((83 ∷ []) ∷ []) _ (pieces_one _ _ _ c.place-a.ensures) c.position.ensures
