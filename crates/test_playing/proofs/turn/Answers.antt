use Rattle.test_playing.proofs.Laws.{plays_next}
use Rattle.test_playing.proofs.turn.Goals as goal

pub returns : goal.returns
returns g c h =
    let p = c.args.p in
    let q = c.refilled-q.result in
    plays_next p q c.step.result q.to _ _ _ _ _ c.refilled-q.ensures c.step.ensures h
