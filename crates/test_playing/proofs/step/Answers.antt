use Rattle.test_playing.proofs.Laws.{step_is, told_go}
use Rattle.test_playing.proofs.step.Goals as goal

pub returns : goal.returns
returns c =
    let p = c.args.p in
    step_is p _ _ _ _ _ _ _ _ _ c.min-to.ensures c.min-from.ensures c.input.ensures c.step-s.ensures
    c.min-taken.ensures (told_go c.step-s.result _ _ _ _ _ c.told-go.ensures)
