-- A time is read back as it was since it fits.
use mir.Syntax.{w64}
use mir.ValLaws.{to_z-of_z}
use Rattle.test_lines.proofs.Laws.{pieces_none, pieces_next}
use borrow.Author.Rules.{rules}
use Rattle.test_playing.proofs.spelling.data_event.Goals as goal

pub returns-in-Message : goal.returns-in-Message
returns-in-Message c =
    rw c.in-Message.is
    (pieces_next _ _ _ _ c.flagged-a.ensures (pieces_next _ _ _ _ c.prefix-b.ensures c.part.ensures))

pub returns-in-XLogData : goal.returns-in-XLogData
returns-in-XLogData c =
    rw c.in-XLogData.is
    (pieces_next _ _ _ _ (rw (to_z-of_z w64 c.in-XLogData.server_time (search rules)) at c.spanned-a.ensures) c.part-in-XLogData.ensures)

pub returns-in-Nothing : goal.returns-in-Nothing
returns-in-Nothing c = rw c.in-Nothing.is (pieces_none _ _)

pub returns-in-KeepAlive : goal.returns-in-KeepAlive
returns-in-KeepAlive c = rw c.in-KeepAlive.is (pieces_none _ _)

pub returns-in-Begin : goal.returns-in-Begin
returns-in-Begin c = rw c.in-Begin.is (pieces_none _ _)

pub returns-in-Commit : goal.returns-in-Commit
returns-in-Commit c = rw c.in-Commit.is (pieces_none _ _)

pub returns-in-StoppedAt : goal.returns-in-StoppedAt
returns-in-StoppedAt c = rw c.in-StoppedAt.is (pieces_none _ _)
