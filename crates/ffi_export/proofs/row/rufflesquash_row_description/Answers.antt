use mathlib.Core.Path.{ap, ◌∙◌}
use Rattle.rows.specs.Words.{description_reply}
use Rattle.ffi_export.proofs.row.rufflesquash_row_description.Goals as goal

pub returns : goal.returns
returns c = c.description_reply-reply.ensures ∙ ap description_reply c.description_at.ensures
