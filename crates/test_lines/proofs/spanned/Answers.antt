-- A time is read back as it was since it fits.
use mathlib.Core.List.{[], ◌∷◌}
use mir.Syntax.{w64}
use mir.ValLaws.{to_z-of_z}
use Rattle.test_lines.specs.Line.{position_texts}
use Rattle.test_lines.proofs.Laws.{pieces_one, pieces_next}
use Rattle.test_lines.proofs.spanned.Goals as goal

pub returns : goal.returns
returns c =
    let a = c.args in
    pieces_next _ _ ((a.letter ∷ []) ∷ []) _ (pieces_one _ _ _ c.place-a.ensures)
    (pieces_next _ _ (position_texts a.p.0) _ c.position-b.ensures
    (pieces_next _ _ (position_texts a.q.0) _ c.position-c.ensures (rw (to_z-of_z w64 a.time c.ranges.time) at c.long.ensures)))
