use mir.Syntax.{w64}
use mir.ValLaws.{to_z-of_z}
use Rattle.ffi_words.proofs.event.clip.Goals as goal

pub returns-in-Message : goal.returns-in-Message
returns-in-Message c =
    rw (
      c.length_in-in-Message.ensures,
      c.min-in-Message.ensures,
      c.length_in.ensures,
      c.min.ensures,
      c.in-Message.is,
    )

pub returns-in-XLogData : goal.returns-in-XLogData
returns-in-XLogData c =
    let fits = c.in-XLogData.known_told-in-XLogData-1-own.given.1.1.0.1 in
    rw (
      c.length_in-in-XLogData.ensures,
      c.min-in-XLogData.ensures,
      to_z-of_z w64 c.in-XLogData.server_time (record { sfits = fits }),
      c.in-XLogData.is,
    )
