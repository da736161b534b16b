use mathlib.Core.Path.{ap, ◌∙◌}
use Rattle.ffi_answers.specs.Parts.{column_reply}
use Rattle.ffi_export.proofs.server.rufflesquash_column.Goals as goal

pub returns : goal.returns
returns c = c.column_reply-reply.ensures ∙ ap column_reply c.column.ensures
