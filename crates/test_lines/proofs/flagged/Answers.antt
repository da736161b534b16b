use mathlib.Core.List.{[], ◌∷◌}
use Rattle.test_lines.specs.Line.{flag_texts}
use Rattle.test_lines.proofs.Laws.{pieces_one, pieces_next}
use Rattle.test_lines.proofs.flagged.Goals as goal

pub returns : goal.returns
returns c =
    let a = c.args in
    pieces_next _ _ ((77 ∷ []) ∷ []) _ (pieces_one _ _ _ c.place-a.ensures)
    (pieces_next _ _ (flag_texts a.on) _ c.flag-b.ensures c.position.ensures)
