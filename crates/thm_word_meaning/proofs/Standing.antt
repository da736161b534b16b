-- Words stand for what they are.
use mathlib.Core.Path.{refl}
use Rattle.thm_word_meaning.specs.Standing.{Standings}

pub standings : Standings
standings = record { run = λ w. refl; reader = λ w. refl; query = λ w. refl; cell = λ w. refl }
