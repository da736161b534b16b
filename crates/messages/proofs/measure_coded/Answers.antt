-- The length of the text is those of its parts and 12; its marks are those of its parts.
use mathlib.Core.Path.{◌≡◌, sym, ◌∙◌}
use mathlib.Core.List.{List}
use mathlib.Core.Option.{some, none}
use Prim.Native.Nat.{ℕ, ◌+◌, ◌≤◌, ◌<◌}
use native.Mathlib.Omega.{arith}
use lib.ListN.{length}
use Rattle.lossy.specs.Marks.{measured}
use Rattle.lossy.proofs.Laws.{measured_within, measured_past, measured_fits, measured_over}
use Rattle.lossy.proofs.Marks.{marks_fit}
use Rattle.messages.specs.ErrorText.{coded}
use Rattle.messages.proofs.Text.{length_coded}
use Rattle.messages.proofs.measure_coded.Goals as goal

past : (a b : List ℕ) (room marks : ℕ) → room < length a + 12 + length b → none ≡ measured room (length (coded a b)) marks
past a b room marks h = measured_past room (length (coded a b)) marks (rw length_coded h)

within : (a b : List ℕ) (room marks k m : ℕ) → k ≡ length a + 12 + length b → m ≡ marks → k ≤ room → some (k, m) ≡ measured room (length (coded a b)) marks
within a b room marks k m e f h = measured_within room (length (coded a b)) marks k m (e ∙ sym (length_coded a b)) f h

pub returns-in_err-first : goal.returns-in_err-first
returns-in_err-first c =
    let h = measured_over _ _ _ c.measure.ensures c.in_err-first.was in
    rw c.from_residual.ensures (past _ _ _ _ (omega arith))

pub overflow_sub-left : goal.overflow_sub-left
overflow_sub-left c =
    let n = measured_fits _ _ _ c.measure.ensures c.in_ok-first.was in
    n.1

pub returns-then-left-lt12 : goal.returns-then-left-lt12
returns-then-left-lt12 c =
    let n = measured_fits _ _ _ c.measure.ensures c.in_ok-first.was in
    past _ _ _ _ (omega arith)

pub returns-in_err-second : goal.returns-in_err-second
returns-in_err-second c =
    let n = measured_fits _ _ _ c.measure.ensures c.in_ok-first.was in
    let h = measured_over _ _ _ c.measure-2.ensures c.in_err-second.was in
    rw c.from_residual-in_err-second.ensures (past _ _ _ _ (omega arith))

pub overflow_add-result-2 : goal.overflow_add-result-2
overflow_add-result-2 c =
    let n = measured_fits _ _ _ c.measure.ensures c.in_ok-first.was in
    let m = measured_fits _ _ _ c.measure-2.ensures c.in_ok-second.was in
    omega arith

pub overflow_add-result-3 : goal.overflow_add-result-3
overflow_add-result-3 c =
    let n = measured_fits _ _ _ c.measure.ensures c.in_ok-first.was in
    let m = measured_fits _ _ _ c.measure-2.ensures c.in_ok-second.was in
    let p = marks_fit c.args.text.now in
    let q = marks_fit c.args.code.now in
    omega arith

pub returns : goal.returns
returns c =
    let n = measured_fits _ _ _ c.measure.ensures c.in_ok-first.was in
    let m = measured_fits _ _ _ c.measure-2.ensures c.in_ok-second.was in
    within _ _ _ _ _ _ (omega arith) (omega arith) (omega arith)
