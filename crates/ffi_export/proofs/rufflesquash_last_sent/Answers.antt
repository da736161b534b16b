use mathlib.Core.Path.{ap, ◌∙◌}
use Rattle.ffi_words.specs.Words.{last_status_words}
use Rattle.ffi_export.proofs.rufflesquash_last_sent.Goals as goal

pub returns : goal.returns
returns c = c.last_status_words.ensures ∙ ap last_status_words c.last_status_of-s.ensures
