-- Of the bytes before the loop's place so many are unfit, at most each of them.
use Rattle.lossy.specs.Blocks.{fits}
use Rattle.lossy.proofs.Pairs.{unfit_none, unfit_next, fits_few}
use Prim.Native.Nat.{ℕ, ◌+◌, ◌≤◌}
use mathlib.Core.Path.{◌≡◌, sym}
use native.Mathlib.Omega.{arith}
use lib.ListN.{get_or}
use Rattle.lossy.proofs.blocks.unfit_in.Goals as goal

pub loop-j-init : goal.loop-j-init
loop-j-init c = (sym (unfit_none _ _), omega arith)

-- the byte at hand adds at most one
few : (a b : ℕ) {n : ℕ} → n ≡ fits a b → n ≤ 1
few a b e = rw e (fits_few a b)

pub loop-j-preserved : goal.loop-j-preserved
loop-j-preserved c =
    let a = c.args in
    let f = few (get_or c.args.text.now (c.args.from + c.loop-j.j) 0) (get_or c.args.text.now (c.args.from + c.loop-j.j + 1) 0) c.unfit-n.ensures in
    let u = unfit_next a.text.now a.from c.loop-j.j in
    let e = c.unfit-n.ensures in
    (omega arith, omega arith)
