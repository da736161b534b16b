use mathlib.Core.Path.{◌∙◌}
use Rattle.ffi_export.proofs.server.rufflesquash_data_row.Goals as goal

pub returns : goal.returns
returns c = c.written_reply-reply.ensures ∙ c.parse_data_row.ensures
