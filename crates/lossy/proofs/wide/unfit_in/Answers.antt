-- Of the windows before the loop's place the sum is what was added up, at most six for each.
use Rattle.lossy.specs.Wide.{window_at}
use Rattle.lossy.proofs.Windows.{windows_none, windows_next}
use Prim.Native.Nat.{◌+◌}
use mathlib.Core.Path.{◌≡◌, sym}
use native.Mathlib.Omega.{arith}
use Rattle.lossy.proofs.wide.unfit_in.Goals as goal

pub loop-j-init : goal.loop-j-init
loop-j-init c = (sym (windows_none _ _), omega arith)

pub loop-j-preserved : goal.loop-j-preserved
loop-j-preserved c =
    let a = c.args in
    let u = windows_next a.text.now a.from c.loop-j.j in
    let e : c.unfit-n.result ≡ window_at a.text.now (a.from + c.loop-j.j) = c.unfit-n.ensures.0 in
    let f = c.unfit-n.ensures.1 in
    (omega arith, omega arith)
