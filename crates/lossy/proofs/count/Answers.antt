-- The length of what was measured.
use Rattle.error.proofs.Laws.{fits, over}
use Rattle.lossy.proofs.Laws.{measured_fits, measured_over}
use mathlib.Core.Path.{sym}
use Rattle.lossy.proofs.count.Goals as goal

pub returns : goal.returns
returns c =
    let h = measured_fits _ _ _ c.measure.ensures c.in_ok-length.was in
    fits _ _ _ (sym h.0) h.1

pub returns-in_err-length : goal.returns-in_err-length
returns-in_err-length c = rw c.from_residual.ensures (over _ _ (measured_over _ _ _ c.measure.ensures c.in_err-length.was))
