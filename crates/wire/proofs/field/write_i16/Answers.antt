use mir.Syntax.{w16}
use mir.ValLaws.{to_z-of_z}
use Rattle.wire.proofs.Signed.{widened}
use native.Mathlib.Omega.{arith}
use Rattle.wire.proofs.field.write_i16.Goals as goal

pub overflow_cast-v : goal.overflow_cast-v
overflow_cast-v c = rw (to_z-of_z w16 c.args.v c.ranges.v) (record { sfits = omega (arith, c.ranges.v.sfits) })

pub of_signed-requires : goal.of_signed-requires
of_signed-requires c = (omega arith, rw (widened w16 c.args.v c.ranges.v (omega (arith, c.ranges.v.sfits))) c.ranges.v.sfits)

pub returns : goal.returns
returns c =
    rw (c.of_signed.ensures, widened w16 c.args.v c.ranges.v (omega (arith, c.ranges.v.sfits))) at c.write_be.ensures
