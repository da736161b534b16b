use mathlib.Core.Path.{ap, ◌∙◌}
use Rattle.ffi_answers.specs.Parts.{auth_words}
use Rattle.ffi_export.proofs.server.rufflesquash_auth_request.Goals as goal

pub returns : goal.returns
returns c = c.auth_words.ensures ∙ ap auth_words c.parse_auth_request-request.ensures
