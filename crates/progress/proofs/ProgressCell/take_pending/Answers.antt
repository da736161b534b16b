-- By whether the stored position is above the one that was sent.
use Rattle.progress.specs.Progress.{reported_of}
use mathlib.Core.Path.{sym, ◌∙◌}
use Rattle.progress.proofs.ProgressCell.take_pending.Goals as goal

pub returns-then-is_below : goal.returns-then-is_below
unfolding reported_of
returns-then-is_below c = rw (sym c.is_below.ensures ∙ c.if-is_below.true)

pub returns : goal.returns
unfolding reported_of
returns c = rw (sym c.is_below.ensures ∙ c.if-is_below.false)
