use mathlib.Core.Path.{ap, ◌∙◌}
use Rattle.rows.specs.Words.{column_reply}
use Rattle.ffi_export.proofs.row.rufflesquash_row_column.Goals as goal

pub returns : goal.returns
returns c = c.column_reply-reply.ensures ∙ ap column_reply c.column_at.ensures
