use Rattle.test_lines.proofs.Laws.{pieces_one}
use Rattle.test_lines.proofs.flag.Goals as goal

pub returns-then-on : goal.returns-then-on
returns-then-on c =
    rw c.if-on.true (pieces_one _ _ _ c.place.ensures)

pub returns-else-on : goal.returns-else-on
returns-else-on c =
    rw c.if-on.false (pieces_one _ _ _ c.place-else-on.ensures)
