use Rattle.std.proofs.Common.{◌∙◌, w64}
use mir.ValLaws.{to_z-of_z}
use Rattle.worker.specs.Answer.{lent}
use Rattle.worker.proofs.handle.xlog_data.Goals as goal

pub returns-in-Ok : goal.returns-in-Ok
returns-in-Ok c = λ u o.
    let e = (rw (to_z-of_z w64 c.args.server_time c.ranges.server_time) at c.event_at.ensures) in
    c.offers_at.ensures (lent u _ o) ∙ rw (← e, c.in-Ok.is)

pub returns-in-Err : goal.returns-in-Err
returns-in-Err c = λ u o.
    let e = (rw (to_z-of_z w64 c.args.server_time c.ranges.server_time) at c.event_at.ensures) in
    c.ended.ensures (lent u _ o) ∙ rw (← e, c.in-Err.is)
