use mir.Syntax.{w32}
use mir.ValLaws.{to_z-of_z}
use Rattle.ffi_export.proofs.Laws.{replied}
use Rattle.ffi_export.proofs.client.rufflesquash_write_startup.Goals as goal

pub returns : goal.returns
returns c =
    let back = to_z-of_z w32 c.args.version c.ranges.version in
    replied c.written_reply-reply.ensures (rw back at c.write_startup.ensures)
