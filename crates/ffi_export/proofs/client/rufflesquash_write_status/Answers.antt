use mir.Syntax.{w64}
use mir.ValLaws.{to_z-of_z}
use Rattle.ffi_export.proofs.Laws.{replied}
use Rattle.ffi_export.proofs.client.rufflesquash_write_status.Goals as goal

pub returns : goal.returns
returns c =
    let back = to_z-of_z w64 c.args.client_time c.ranges.client_time in
    replied c.written_reply-answer.ensures (rw back at c.write_status_update.ensures)
