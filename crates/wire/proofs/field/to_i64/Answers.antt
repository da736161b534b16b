use mir.Syntax.{w64}
use mir.ValLaws.{to_z-of_z}
use Rattle.wire.proofs.field.to_i64.Goals as goal

pub returns : goal.returns
returns c = rw (to_z-of_z w64 c.to_signed.result (record { sfits = c.to_signed.ensures.1 })) c.to_signed.ensures
