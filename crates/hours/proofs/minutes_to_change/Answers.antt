-- In all minutes walked over the state is that of the first.
use mathlib.Core.Path.{◌≡◌}
use mathlib.Core.Bool.{true}
use Prim.Native.Nat.{ℕ, ◌+◌, ◌%◌, ◌≤◌, ◌<◌}
use native.Mathlib.Omega.{arith}
use lib.Dec.{ltb}
use borrow.Author.Tests.{ltb-true, ltb-false}
use Rattle.wire.proofs.Laws.{by_test}
use Rattle.hours.specs.Calendar.{are_windows}
use Rattle.hours.specs.declared.Hours.{Hours}
use Rattle.hours.specs.Code.{until_boundary}
use Rattle.hours.proofs.Laws.{Same, until_far, same_start, same_step, are_different, are_alike, found, found_none}
use Rattle.hours.proofs.minutes_to_change.Goals as goal

pub loop-walked-init : goal.loop-walked-init
loop-walked-init c = (omega arith, same_start _ _ c.requires.0)

-- how far the next boundary is
far : (h : Hours) (m walked : ℕ) → are_windows h.opens h.closes 7 ≡ true → (n : ℕ) → n ≡ until_boundary h ((m + walked) % 10080) → (0 < n) × (n ≤ 1440)
far h m walked e n q = rw q (until_far h e _ (omega arith))

pub overflow_add-walked : goal.overflow_add-walked
overflow_add-walked c =
    let u = c.until_boundary-walked in
    omega (arith, far c.args.hours c.args.m c.loop-walked.walked c.requires.1 u.result u.ensures)

pub overflow_add-m-in-loop-walked : goal.overflow_add-m-in-loop-walked
overflow_add-m-in-loop-walked c =
    let u = c.until_boundary-walked in
    omega (arith, far c.args.hours c.args.m c.loop-walked.walked c.requires.1 u.result u.ensures, c.requires.0)

-- the minutes up to the boundary
walked_same : (h : Hours) (m walked : ℕ) → are_windows h.opens h.closes 7 ≡ true → ((i : ℕ) → i ≤ walked → Same h m i) → (n : ℕ)
    → n ≡ until_boundary h ((m + walked) % 10080) → (k : ℕ) → k < walked + n → Same h m k
walked_same h m walked e s n q = rw q (same_step h e m walked s)

pub returns-then-open_at-now : goal.returns-then-open_at-now
returns-then-open_at-now c =
    let h = c.args.hours in
    let m = c.args.m in
    let l = c.loop-walked in
    let u = c.until_boundary-walked in
    let e = are_different _ _ (rw (c.open_at.ensures, c.open_at-now.ensures) at c.if-open_at-now.true) in
    let f : (0 < u.result) × (u.result ≤ 1440) = far h m l.walked c.requires.1 u.result u.ensures in
    (found h m _ (omega (arith, f.0)) (walked_same h m l.walked c.requires.1 l.invariant.1 u.result u.ensures) e, (omega (arith, f.0), omega (arith, f.1)))

pub loop-walked-smaller : goal.loop-walked-smaller
loop-walked-smaller c =
    let u = c.until_boundary-walked in
    omega (arith, far c.args.hours c.args.m c.loop-walked.walked c.requires.1 u.result u.ensures)

pub loop-walked-preserved : goal.loop-walked-preserved
loop-walked-preserved c =
    let h = c.args.hours in
    let m = c.args.m in
    let w = c.loop-walked in
    let u = c.until_boundary-walked in
    let n = w.walked + u.result in
    let e = are_alike _ _ (rw (c.open_at.ensures, c.open_at-now.ensures) at c.if-open_at-now.false) in (
      omega (arith, far h m w.walked c.requires.1 u.result u.ensures),
      λ i l. by_test (ltb i n)
          (λ t. walked_same h m w.walked c.requires.1 w.invariant.1 u.result u.ensures i (ltb-true i n t))
          (λ t. let f : i ≡ n = omega (arith, ltb-false i n t) in rw f e),
    )

pub returns : goal.returns
returns c = (found_none _ _ (λ k l. c.loop-walked.invariant.1 k (omega arith)), tt)
