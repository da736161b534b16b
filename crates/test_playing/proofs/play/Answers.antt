use Rattle.test_playing.proofs.play.Goals as goal

pub returns : goal.returns
returns g c = c.turns.ensures
