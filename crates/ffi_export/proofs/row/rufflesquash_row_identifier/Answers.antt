use mathlib.Core.Path.{ap, ◌∙◌}
use Rattle.rows.specs.Words.{identifier_reply}
use Rattle.ffi_export.proofs.row.rufflesquash_row_identifier.Goals as goal

pub returns : goal.returns
returns c = c.identifier_reply-reply.ensures ∙ ap identifier_reply c.identifier_at.ensures
