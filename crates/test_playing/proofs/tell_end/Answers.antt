use mathlib.Core.Path.{ap}
use mathlib.Core.List.{List, [], ◌∷◌}
use Prim.Native.Nat.{ℕ}
use Rattle.test_lines.specs.Line.{number_texts}
use Rattle.test_lines.proofs.Laws.{pieces_one, pieces_next}
use Rattle.worker.specs.Answer.{verdict_number}
use Rattle.test_playing.proofs.tell_end.Goals as goal

pub returns : goal.returns
returns c =
    let v = c.args.verdict in
    ap (λ (x : ℕ × List ℕ). x.1)
    (pieces_next _ _ ((69 ∷ 78 ∷ 68 ∷ []) ∷ []) _ (pieces_one _ _ _ c.place-a.ensures)
    (pieces_next _ _ (number_texts (verdict_number v)) _ (rw c.number.ensures at c.number-b.ensures) c.end-c.ensures))
