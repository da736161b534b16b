-- The texts written and those to come, each with its zero byte, are all texts.
use Rattle.wire.proofs.Pieces.{Filling}
use Rattle.frontend.specs.Code.{strings}
use lib.ListN.{drop}
use Rattle.frontend.proofs.place_strings.Given as goal

abbrev pub invariant-loop-text : goal.invariant-loop-text
invariant-loop-text l = Filling l.initial.out l.at (strings l.texts) l.out l.to (strings (drop l.text-index l.texts))
