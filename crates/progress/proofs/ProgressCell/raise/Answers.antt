-- By whether the position rises.
use Rattle.progress.specs.Progress.{raise_of}
use mathlib.Core.Path.{sym, ◌∙◌}
use Rattle.progress.proofs.ProgressCell.raise.Goals as goal

pub returns-then-is_below : goal.returns-then-is_below
unfolding raise_of
returns-then-is_below c = simp (sym c.is_below.ensures ∙ c.if-is_below.true) (rw c.stored-pending.ensures)

pub returns : goal.returns
unfolding raise_of
returns c = simp (sym c.is_below.ensures ∙ c.if-is_below.false)
