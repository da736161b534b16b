-- Window after window fits; the last block stands over the one before it.
use Rattle.lossy.specs.Wide.{unfits, windows_at}
use Rattle.lossy.proofs.Windows.{windows_none, windows_more, windows_last, windows_passed_at}
use Prim.Native.Nat.{ℕ, ◌+◌, ◌-◌}
use mathlib.Core.Path.{◌≡◌, sym, ◌∙◌}
use native.Mathlib.Omega.{arith}
use mathlib.Core.List.{List}
use lib.ListN.{length, get_or}
use Rattle.lossy.proofs.wide.passed.Goals as goal

pub loop-i-init : goal.loop-i-init
loop-i-init c =
    let a = c.args in
    let e : a.from - a.from ≡ 0 = omega arith in
    (omega arith, omega arith, rw e (windows_none _ _))

-- the first three bytes fit behind nothing
first : (s : List ℕ) (i : ℕ) {n : ℕ}
    → n ≡ unfits 0 0 0 (get_or s i 0) + unfits 0 0 (get_or s i 0) (get_or s (i + 1) 0) + unfits 0 (get_or s i 0) (get_or s (i + 1) 0) (get_or s (i + 2) 0) → n ≡ 0
    → unfits 0 0 0 (get_or s i 0) + unfits 0 0 (get_or s i 0) (get_or s (i + 1) 0) + unfits 0 (get_or s i 0) (get_or s (i + 1) 0) (get_or s (i + 2) 0) ≡ 0
first s i e z = sym e ∙ z

pub returns-then-unfit_in-ne0 : goal.returns-then-unfit_in-ne0
returns-then-unfit_in-ne0 c =
    let a = c.args in
    let z : c.unfit_first.result ≡ 0 = omega arith in
    windows_passed_at a.text.now a.from c.loop-i.i c.boundary.result c.loop-i.invariant.0 c.loop-i.invariant.1 (first c.args.text.now c.args.from c.unfit_first.ensures z) c.loop-i.invariant.2 c.boundary.ensures

pub loop-i-preserved : goal.loop-i-preserved
loop-i-preserved c =
    let a = c.args in
    let u : windows_at a.text.now c.loop-i.i 32 ≡ 0 = sym c.unfit_in.ensures ∙ omega arith in
    (omega arith, omega arith, windows_more a.text.now a.from c.loop-i.i 32 c.loop-i.invariant.0 c.loop-i.invariant.2 u)

pub returns-then-unfit_in-ne0-2 : goal.returns-then-unfit_in-ne0-2
returns-then-unfit_in-ne0-2 c =
    let a = c.args in
    let z : c.unfit_first.result ≡ 0 = omega arith in
    windows_passed_at a.text.now a.from c.loop-i.i c.boundary-then-unfit_in-ne0-2.result c.loop-i.invariant.0 c.loop-i.invariant.1 (first c.args.text.now c.args.from c.unfit_first.ensures z) c.loop-i.invariant.2 c.boundary-then-unfit_in-ne0-2.ensures

pub returns : goal.returns
returns c =
    let a = c.args in
    let z : c.unfit_first.result ≡ 0 = omega arith in
    let s = a.text.now in
    let u : windows_at s (length s - 35) 32 ≡ 0 = sym c.unfit_in-2.ensures ∙ omega arith in
    let e : length s - 35 + 32 ≡ length s - 3 = omega arith in
    let w = windows_last s a.from c.loop-i.i (length s - 35) 32 c.loop-i.invariant.0 (omega arith) (omega arith) c.loop-i.invariant.2 u in
    windows_passed_at s a.from (length s - 3) c.boundary-2.result (omega arith) (omega arith) (first c.args.text.now c.args.from c.unfit_first.ensures z) (rw e at w) c.boundary-2.ensures
