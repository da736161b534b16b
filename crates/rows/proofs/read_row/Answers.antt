-- By the first letter: what the message says is what the data say.
use mathlib.Core.Path.{sym, ◌∙◌}
use Rattle.rows.proofs.Letters.{no_data, boundary, relation_row, type_row, origin_row, insert_row, update_row, delete_row, truncate_row}
use Rattle.rows.proofs.Letters.{other_letter, with_row}
use Rattle.rows.proofs.read_row.Goals as goal

pub returns-then-bytes-eq0 : goal.returns-then-bytes-eq0
returns-then-bytes-eq0 c = no_data _ c.if-bytes-eq0.true

pub returns-then-is_boundary : goal.returns-then-is_boundary
returns-then-is_boundary c = boundary _ c.if-bytes-eq0.false (sym c.if-is_boundary.true ∙ c.is_boundary.ensures)

pub returns-then-letter-eq82 : goal.returns-then-letter-eq82
returns-then-letter-eq82 c =
    relation_row _ c.if-bytes-eq0.false (sym c.if-is_boundary.false ∙ c.is_boundary.ensures)
    c.if-letter-eq82.true (with_row _ _ c.map.ensures.cases ∙ c.relation_at.ensures)

pub returns-then-letter-eq89 : goal.returns-then-letter-eq89
returns-then-letter-eq89 c =
    type_row _ c.if-bytes-eq0.false (sym c.if-is_boundary.false ∙ c.is_boundary.ensures)
    c.if-letter-eq82.false c.if-letter-eq89.true (with_row _ _ c.map-then-letter-eq89.ensures.cases ∙ c.type_at.ensures)

pub returns-then-letter-eq79 : goal.returns-then-letter-eq79
returns-then-letter-eq79 c =
    origin_row _ c.if-bytes-eq0.false (sym c.if-is_boundary.false ∙ c.is_boundary.ensures)
    c.if-letter-eq82.false c.if-letter-eq89.false c.if-letter-eq79.true (with_row _ _ c.map-then-letter-eq79.ensures.cases ∙ c.origin_at.ensures)

pub returns-then-letter-eq73 : goal.returns-then-letter-eq73
returns-then-letter-eq73 c =
    insert_row _ c.if-bytes-eq0.false (sym c.if-is_boundary.false ∙ c.is_boundary.ensures)
    c.if-letter-eq82.false c.if-letter-eq89.false c.if-letter-eq79.false c.if-letter-eq73.true (with_row _ _ c.map-then-letter-eq73.ensures.cases ∙ c.insert_at.ensures)

pub returns-then-letter-eq85 : goal.returns-then-letter-eq85
returns-then-letter-eq85 c =
    update_row _ c.if-bytes-eq0.false (sym c.if-is_boundary.false ∙ c.is_boundary.ensures)
    c.if-letter-eq82.false c.if-letter-eq89.false c.if-letter-eq79.false c.if-letter-eq73.false c.if-letter-eq85.true (with_row _ _ c.map-then-letter-eq85.ensures.cases ∙ c.update_at.ensures)

pub returns-then-letter-eq68 : goal.returns-then-letter-eq68
returns-then-letter-eq68 c =
    delete_row _ c.if-bytes-eq0.false (sym c.if-is_boundary.false ∙ c.is_boundary.ensures)
    c.if-letter-eq82.false c.if-letter-eq89.false c.if-letter-eq79.false c.if-letter-eq73.false c.if-letter-eq85.false c.if-letter-eq68.true (with_row _ _ c.map-then-letter-eq68.ensures.cases ∙ c.delete_at.ensures)

pub returns-then-letter-eq84 : goal.returns-then-letter-eq84
returns-then-letter-eq84 c =
    truncate_row _ c.if-bytes-eq0.false (sym c.if-is_boundary.false ∙ c.is_boundary.ensures)
    c.if-letter-eq82.false c.if-letter-eq89.false c.if-letter-eq79.false c.if-letter-eq73.false c.if-letter-eq85.false c.if-letter-eq68.false c.if-letter-eq84.true (with_row _ _ c.map-then-letter-eq84.ensures.cases ∙ c.truncate_at.ensures)

pub returns : goal.returns
returns c =
    other_letter _ c.if-bytes-eq0.false (sym c.if-is_boundary.false ∙ c.is_boundary.ensures)
    c.if-letter-eq82.false c.if-letter-eq89.false c.if-letter-eq79.false c.if-letter-eq73.false c.if-letter-eq85.false c.if-letter-eq68.false c.if-letter-eq84.false
