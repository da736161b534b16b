use Rattle.test_lines.specs.Fields.{name_at}
use native.Mathlib.Omega.{arith}
use Rattle.test_lines.proofs.names.name_at.Goals as goal

pub returns : goal.returns
unfolding name_at
returns c = ((cc), omega arith, omega arith)
