use Rattle.test_playing.specs.Playing.{Plays}
use Rattle.test_playing.proofs.turns.Given as goal

abbrev pub invariant-loop : goal.invariant-loop
invariant-loop g l = Plays l.p.run
