-- The columns passed and those that follow, from the place reached, make the columns of the whole walk.
use mathlib.Core.Option.{some, none}
use Rattle.query.specs.DataRow.{column_at, columns_from}
use Rattle.query.proofs.Laws.{walk_start, walk_turn, walk_cut, walk_end}
use Prim.Native.Nat.{◌-◌}
use mathlib.Core.Path.{◌≡◌, sym, ◌∙◌}
use native.Mathlib.Omega.{arith}
use Rattle.wire.specs.Bytes.{pick}
use borrow.Author.Tests.{eq-eqb, ne_eqb}
use lib.Dec.{eqb}
use Rattle.query.proofs.data_row.walk.Goals.{then-k-i, else-k-i}
use Rattle.query.proofs.data_row.walk.Goals as goal

pub loop-k-init : goal.loop-k-init
loop-k-init c =
    let a = c.args in
    let z : a.n - 0 ≡ a.n = omega arith in
    rw z (walk_start a.i (columns_from a.n a.payload.now 2))

pub returns-in_err-one : goal.returns-in_err-one
returns-in_err-one c =
    let a = c.args in
    let e : none ≡ column_at a.payload.now c.loop-k.at = rw c.in_err-one.was at c.column_at.ensures in
    rw c.from_residual.ensures (sym (walk_cut a.n c.loop-k.k a.i a.payload.now c.loop-k.at c.loop-k.c (omega arith) e) ∙ c.loop-k.invariant)

pub loop-k-preserved : goal.loop-k-preserved
loop-k-preserved c =
    let a = c.args in
    let one = c.in_ok-one.one in
    let next = c.in_ok-one.next in
    let e : some (one, next) ≡ column_at a.payload.now c.loop-k.at = rw c.in_ok-one.was at c.column_at.ensures in
    let k : c.if-k-i.c ≡ pick (eqb c.loop-k.k a.i) one c.loop-k.c =
    elim c.if-k-i.branch [
      | then-k-i w ↦ rw (eq-eqb _ _ w.if-k-i.true) w.c-is
      | else-k-i w ↦ rw (ne_eqb _ _ w.if-k-i.false) w.c-is
    ] in
    rw k (sym (walk_turn a.n c.loop-k.k a.i a.payload.now c.loop-k.at next c.loop-k.c one (omega arith) e) ∙ c.loop-k.invariant)

pub returns : goal.returns
returns c =
    let a = c.args in
    sym (walk_end a.n c.loop-k.k a.i a.payload.now c.loop-k.at c.loop-k.c (omega arith)) ∙ c.loop-k.invariant
