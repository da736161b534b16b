use Rattle.test_lines.proofs.Laws.{pieces_two}
use mir.Syntax.{w64}
use mir.ValLaws.{to_z-of_z}
use Rattle.test_lines.proofs.long.Goals as goal

pub returns : goal.returns
returns c =
    pieces_two _ _ _ _ c.place-a.ensures (rw (to_z-of_z w64 c.args.n c.ranges.n) at c.place_signed.ensures)
