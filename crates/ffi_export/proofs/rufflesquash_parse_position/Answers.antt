use mathlib.Core.Path.{◌∙◌}
use Rattle.ffi_export.proofs.rufflesquash_parse_position.Goals as goal

pub returns : goal.returns
returns c = c.parsed_reply-reply.ensures ∙ c.parse.ensures
