use mir.Syntax.{w32}
use mir.ValLaws.{to_z-of_z}
use mathlib.Core.Path.{ap, ◌∙◌}
use native.Mathlib.Omega.{arith}
use Rattle.wire.proofs.Signed.{widened}
use Rattle.wire.specs.Int.{value}
use Rattle.ffi_answers.proofs.part.code_word.Goals as goal

pub overflow_cast-code : goal.overflow_cast-code
overflow_cast-code c = rw (to_z-of_z w32 c.args.code c.ranges.code) (record { sfits = omega (arith, c.ranges.code.sfits) })

pub returns : goal.returns
returns c =
    c.of_i64.ensures ∙ ap (value 8) (widened w32 c.args.code c.ranges.code (omega (arith, c.ranges.code.sfits)))
