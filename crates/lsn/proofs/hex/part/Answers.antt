-- The length first, then a turn for each digit: what is read so far, with the digits to come, is the part.
use mathlib.Core.Path.{sym, ◌∙◌}
use native.Mathlib.Omega.{arith}
use lib.ListN.{length}
use mathlib.Core.Logic.{⊎_elim}
use borrow.Author.Tests.{eqb-true, eqb-false}
use Rattle.lsn.proofs.Laws.{value_bad, value_turn, value_end, part_empty, part_long, part_digits, next_below, power_below}
use Rattle.lsn.proofs.hex.part.Goals as goal

pub overflow_mul-v : goal.overflow_mul-v
overflow_mul-v c =
    let l = c.loop-c in
    omega (arith, l.invariant.1, power_below l.c-index 8 (omega arith))

pub returns-in_err-digit : goal.returns-in_err-digit
returns-in_err-digit c =
    let l = c.loop-c in
    let bad = value_bad c.args.s.now l.c-index l.v c.loop-c-test.true (sym c.in_err-digit.ensures.0) in
    rw c.from_residual.ensures (sym bad ∙ l.invariant.0)

pub loop-c-preserved : goal.loop-c-preserved
loop-c-preserved c =
    let l = c.loop-c in
    let d = c.in_ok-digit.ensures in
    let t = value_turn c.args.s.now l.c-index l.v c.loop-c-test.true c.in_ok-digit.field-0 (sym d.0) in
    rw c.from.ensures (sym t ∙ l.invariant.0, next_below l.v c.in_ok-digit.field-0 l.c-index l.invariant.1 d.1, l.invariant.2)

pub returns : goal.returns
returns c =
    let l = c.loop-c in
    sym (value_end c.args.s.now l.c-index l.v (omega arith)) ∙ l.invariant.0

pub returns-then-is_empty : goal.returns-then-is_empty
returns-then-is_empty c =
    let s = c.args.s.now in
    ⊎_elim
    (λ e. part_empty s (eqb-true (length s) 0 (sym c.is_empty.ensures ∙ e)))
    (λ e. part_long s e.1)
    c.then-is_empty.either

pub loop-c-init : goal.loop-c-init
loop-c-init c =
    let s = c.args.s.now in
    let some_digit = eqb-false (length s) 0 (sym c.is_empty.ensures ∙ c.if-is_empty.false) in
    (part_digits s (omega arith) c.if-s-gt8.false, omega arith, c.if-s-gt8.false)
