use Rattle.std.proofs.Common.{◌∙◌, w64}
use mir.ValLaws.{to_z-of_z}
use Rattle.worker.specs.Answer.{lent}
use Rattle.worker.proofs.handle.keep_alive.Goals as goal

pub returns-then-reply : goal.returns-then-reply
returns-then-reply c = λ u p.
    c.send_feedback.ensures u p
    ∙ rw (
      c.with_reply.ensures,
      c.offers-offered.ensures,
      to_z-of_z w64 c.args.server_time c.ranges.server_time,
      c.if-reply.true,
    )

pub returns : goal.returns
returns c = λ u p.
    c.moved.ensures (lent u p _)
    ∙ rw (c.offers-offered.ensures, to_z-of_z w64 c.args.server_time c.ranges.server_time, c.if-reply.false)
