-- The names written and those to come are the value.
use Rattle.config.specs.OptionValue.{option_value}
use Rattle.config.specs.Code.{listed}
use Rattle.wire.proofs.Pieces.{Filling}
use Rattle.config.proofs.fill.Given as goal

abbrev pub invariant-loop-i : goal.invariant-loop-i
invariant-loop-i l = Filling l.initial.out l.at (option_value l.names) l.out l.to (listed l.i l.names)
