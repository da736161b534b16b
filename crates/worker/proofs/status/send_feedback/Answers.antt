-- The client's time is a signed field: it is read back as it was since it fits.
use Rattle.std.proofs.Common.{w64}
use mir.ValLaws.{to_z-of_z}
use Rattle.worker.proofs.Laws.{status_written}
use Rattle.worker.specs.Step.{feedback_of}
use Rattle.worker.proofs.status.send_feedback.Goals as goal

pub returns : goal.returns
unfolding feedback_of
returns c = λ u p.
    let back = to_z-of_z w64 c.args.input.client_time (record { sfits = c.struct_told-1.given.1.0.1 }) in
    let w = rw back at c.write_status_update.ensures in
    rw (c.with_state-next.ensures, c.confirmed.ensures, c.waited_by-waited.ensures, status_written _ _ _ _ _ _ c.requires w, ← c.position-applied.ensures)
