use mathlib.Core.Path.{ap}
use mathlib.Core.List.{List, [], ◌∷◌}
use Prim.Native.Nat.{ℕ}
use Rattle.test_lines.specs.Line.{outside_texts}
use Rattle.test_lines.proofs.Laws.{pieces_one, pieces_next}
use Rattle.test_playing.proofs.tell_outside.Goals as goal

pub returns : goal.returns
returns c =
    ap (λ (x : ℕ × List ℕ). x.1)
    (pieces_next _ _ ((69 ∷ 78 ∷ 68 ∷ []) ∷ []) _ (pieces_one _ _ _ c.place-a.ensures)
    (pieces_next _ _ outside_texts _ c.outside-b.ensures c.end-c.ensures))
