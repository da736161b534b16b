use Rattle.test_lines.proofs.Laws.{pieces_one, pieces_next}
use Rattle.test_edges.proofs.spelled.Goals as goal

pub returns : goal.returns
returns c =
    pieces_next _ _ _ _ (pieces_one _ _ _ c.place-e.ensures)
    (pieces_next _ _ _ _ c.number-f.ensures
    (pieces_next _ _ _ _ c.number-g.ensures
    (pieces_next _ _ _ _ c.number-h.ensures
    (pieces_next _ _ _ _ c.number-i.ensures c.end.ensures))))
