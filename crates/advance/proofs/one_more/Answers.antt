use Rattle.std.proofs.Common.{sym, ◌∙◌, arith}
use Rattle.advance.proofs.Several.{more_told, went_on, sum_fits}
use Rattle.worker.specs.Answer.{outcome_by}
use Rattle.advance.proofs.one_more.Goals as goal

pub returns-then-tells : goal.returns-then-tells
returns-then-tells c = sym (more_told _ _ _ (sym (c.tells.ensures c.args.payload.now c.args.out.now) ∙ c.if-tells.true))

pub overflow_add-next : goal.overflow_add-next
overflow_add-next c =
    let a = c.args in
    let h =
    sum_fits a.input a.unread.now (outcome_by a.last a.payload.now a.out.now) c.min-taken.result _ c.min-taken.ensures c.step-next.ensures
    (omega (arith, c.well_formed)) in
    omega (arith, h)

pub returns : goal.returns
returns c =
    let a = c.args in
    went_on a.input a.unread.now (outcome_by a.last a.payload.now a.out.now) c.min-taken.result _ c.min-taken.ensures c.step-next.ensures
    (sym (c.tells.ensures a.payload.now a.out.now) ∙ c.if-tells.false)
