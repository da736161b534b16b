use Rattle.test_lines.specs.Line.{number_texts, sum_of}
use Rattle.test_lines.proofs.Laws.{pieces_next}
use Rattle.test_leaves.proofs.writers.spelled.Goals as goal

pub returns : goal.returns
returns c =
    let a = c.args in
    pieces_next _ _ _ _ c.number-a.ensures
    (pieces_next _ _ _ _ c.number-b.ensures
    (pieces_next _ _ (number_texts (sum_of a.out.now)) _ (rw c.sum.ensures at c.number-c.ensures) c.part.ensures))
