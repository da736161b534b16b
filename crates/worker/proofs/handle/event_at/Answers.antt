-- Signed fields are read back as they were since they fit.
use Rattle.std.proofs.Common.{drop, sym, arith, length-drop, length-take}
use Rattle.pgoutput.proofs.LayoutMessage.{parts_within}
-- prefix and content lie within the payload, so that their places fit
use Rattle.worker.proofs.handle.event_at.Goals as goal

pub overflow_add-prefix : goal.overflow_add-prefix
overflow_add-prefix c =
    let a = c.args in
    let m = parts_within _ _ _ _ _ _ _ (sym (rw (c.in_ok-boundary.was, c.in-Some.is, c.in-Message.is) at c.boundary_at.ensures)) in
    omega (arith, length-take a.len (drop a.from a.payload.now), length-drop a.from a.payload.now)

pub overflow_add-content : goal.overflow_add-content
overflow_add-content c =
    let a = c.args in
    let m = parts_within _ _ _ _ _ _ _ (sym (rw (c.in_ok-boundary.was, c.in-Some.is, c.in-Message.is) at c.boundary_at.ensures)) in
    omega (arith, length-take a.len (drop a.from a.payload.now), length-drop a.from a.payload.now)
