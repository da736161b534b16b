use mir.Syntax.{w64}
use mir.ValLaws.{to_z-of_z}
use Rattle.wire.proofs.field.of_i64.Goals as goal

pub returns : goal.returns
returns c = rw (to_z-of_z w64 c.args.v c.ranges.v) at c.of_signed.ensures
