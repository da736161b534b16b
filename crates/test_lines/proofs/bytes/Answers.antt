use mathlib.Core.Path.{sym, ◌∙◌}
use borrow.Author.Tests.{eqb-true, eqb-false}
use Rattle.test_lines.proofs.Laws.{pieces_one, pieces_two, bytes_none, bytes_some}
use Rattle.test_lines.proofs.bytes.Goals as goal

pub returns-then-is_empty : goal.returns-then-is_empty
returns-then-is_empty c =
    rw (bytes_none _ (eqb-true _ _ (sym c.is_empty.ensures ∙ c.if-is_empty.true))) (pieces_one _ _ _ c.place.ensures)

pub returns : goal.returns
returns c =
    rw (bytes_some _ (eqb-false _ _ (sym c.is_empty.ensures ∙ c.if-is_empty.false)))
    (pieces_two _ _ _ _ c.place-a.ensures c.place_hex_bytes.ensures)
