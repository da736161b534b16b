-- The server's time is a signed field: it is read back as it was since it fits.
use Rattle.std.proofs.Common.{◌∙◌, arith, w64}
use mir.ValLaws.{to_z-of_z}
use Rattle.worker.specs.Answer.{lent}
use Rattle.worker.proofs.handle.copy_data.Goals as goal

pub returns-in-Ok-KeepAlive : goal.returns-in-Ok-KeepAlive
returns-in-Ok-KeepAlive c = λ u.
    c.keep_alive.ensures u _ ∙ rw (
      c.with_wal_end-next.ensures,
      c.in-Ok-KeepAlive.is,
      rw c.in-Ok-KeepAlive.is at c.in-Ok-KeepAlive.field-0-is,
      to_z-of_z w64 c.in-Ok-KeepAlive.server_time (record { sfits = omega arith }),
    )

pub returns-in-Ok-XLogData : goal.returns-in-Ok-XLogData
returns-in-Ok-XLogData c = λ u.
    c.xlog_data.ensures u _ ∙ rw (
      c.with_wal_end-next-in-Ok-XLogData.ensures,
      c.in-Ok-XLogData.is,
      rw c.in-Ok-XLogData.is at c.in-Ok-XLogData.field-0-is,
      to_z-of_z w64 c.in-Ok-XLogData.server_time (record { sfits = omega arith }),
    )

pub returns-in-Err : goal.returns-in-Err
returns-in-Err c = λ u. rw c.in-Err.is (c.ended.ensures (lent u _ _))
