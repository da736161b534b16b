-- One field set.
use Rattle.progress.specs.Progress.{looked_of}
use mathlib.Core.Path.{refl}
use Rattle.progress.proofs.ProgressCell.take_signal.Goals as goal

pub returns : goal.returns
unfolding looked_of
returns c = refl
