use mathlib.Core.Path.{ap, ◌∙◌}
use Rattle.ffi_words.specs.Words.{metrics_words}
use Rattle.ffi_export.proofs.rufflesquash_metrics.Goals as goal

pub returns : goal.returns
returns c = c.metrics_words.ensures ∙ ap metrics_words c.metrics_of-m.ensures
