use mathlib.Core.Path.{◌∙◌}
use mir.Syntax.{w64}
use mir.ValLaws.{to_z-of_z}
use Rattle.ffi_words.proofs.event.event_words.Goals as goal

pub returns-in-Nothing : goal.returns-in-Nothing
returns-in-Nothing c = (rw c.in-Nothing.is, rw c.in-Nothing.is tt)

pub returns-in-KeepAlive : goal.returns-in-KeepAlive
returns-in-KeepAlive c =
    let fits = c.in-KeepAlive.known_told-1-own.given.1.0.1 in (
      rw (
        c.flag.ensures,
        c.of_i64.ensures,
        to_z-of_z w64 c.in-KeepAlive.b (record { sfits = fits }),
        c.in-KeepAlive.is,
      ),
      rw c.in-KeepAlive.is fits,
    )

pub returns-in-Begin : goal.returns-in-Begin
returns-in-Begin c =
    let fits = c.in-Begin.known_told-in-Begin-1-own.given.1.0.1 in (
      rw (c.of_i64-in-Begin.ensures, to_z-of_z w64 c.in-Begin.b (record { sfits = fits }), c.in-Begin.is),
      rw c.in-Begin.is (fits, c.in-Begin.known_told-in-Begin-1-own.given.1.1.0.1),
    )

pub returns-in-Commit : goal.returns-in-Commit
returns-in-Commit c =
    let fits = c.in-Commit.known_told-in-Commit-1-own.given.1.1.0.1 in (
      rw (
        c.of_i64-in-Commit.ensures,
        to_z-of_z w64 c.in-Commit.c (record { sfits = fits }),
        c.in-Commit.is,
      ),
      rw c.in-Commit.is fits,
    )

pub returns-in-Message : goal.returns-in-Message
returns-in-Message c = (c.message_words.ensures ∙ rw c.in-Message.is, rw c.in-Message.is tt)

pub returns-in-XLogData : goal.returns-in-XLogData
returns-in-XLogData c =
    let fits = c.in-XLogData.known_told-in-XLogData-1-own.given.1.1.0.1 in (
      c.xlog_data_words.ensures
          ∙ rw (
            to_z-of_z w64 c.in-XLogData.c (record { sfits = fits }),
            c.in-XLogData.is,
          ),
      rw c.in-XLogData.is fits,
    )

pub returns-in-StoppedAt : goal.returns-in-StoppedAt
returns-in-StoppedAt c = (rw c.in-StoppedAt.is, rw c.in-StoppedAt.is tt)
