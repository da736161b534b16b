-- Each answer about the next step says its own moment.
use mathlib.Core.Path.{refl}
use Rattle.schedule.specs.Said.{NextSaid}

pub next_said : NextSaid
next_said = record { of_at_once = refl; of_from = λ m. refl; of_on_input = refl; of_never = refl }
