use mathlib.Core.Path.{sym, ap, ◌∙◌}
use Rattle.lsn.specs.Position.{parse_outcome}
use Rattle.test_lines.proofs.Laws.{pieces_one}
use Rattle.positions.proofs.Laws.{shown_accepted, shown_refused}
use Rattle.positions.proofs.stored.shown.Goals as goal

pub returns-in-Ok : goal.returns-in-Ok
returns-in-Ok c =
    let said = sym c.parse.ensures ∙ ap parse_outcome c.in-Ok.is in
    rw (shown_accepted _ _ said) (pieces_one _ _ _ c.place.ensures)

pub returns-in-Err : goal.returns-in-Err
returns-in-Err c =
    let said = sym c.parse.ensures ∙ ap parse_outcome c.in-Err.is in
    rw (shown_refused _ c.in-Err.r said) (rw c.number.ensures at c.refused.ensures)
