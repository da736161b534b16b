-- The bytes written and those to come are the name with its quotes doubled.
use Rattle.config.specs.OptionValue.{doubled}
use Rattle.wire.proofs.Pieces.{Filling}
use lib.ListN.{drop}
use Rattle.config.proofs.fill_name.Given as goal

abbrev pub invariant-loop-c : goal.invariant-loop-c
invariant-loop-c l = Filling l.initial.out l.at (doubled l.s) l.out l.to (doubled (drop l.c-index l.s))
