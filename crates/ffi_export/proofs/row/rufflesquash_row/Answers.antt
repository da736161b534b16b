use mathlib.Core.Path.{ap, ◌∙◌}
use Rattle.rows.specs.Words.{row_reply}
use Rattle.ffi_export.proofs.row.rufflesquash_row.Goals as goal

pub returns : goal.returns
returns c = c.row_reply-reply.ensures ∙ ap row_reply c.read_row.ensures
