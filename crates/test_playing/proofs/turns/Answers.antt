use Rattle.test_playing.specs.Playing.{Plays}
use Rattle.test_playing.proofs.turns.Goals as goal

pub loop-init : goal.loop-init
loop-init g c = rw c.begin-p.ensures Plays.first
