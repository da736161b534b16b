-- The constant is what the ranges give, computed entry after entry.
use mathlib.Core.Path.{refl}
use Rattle.utf8.specs.WellFormed.{table, row_of}
use Rattle.utf8.specs.Automaton.{states, due_in, state_of, entry_of, entries_from, entries}
use Rattle.utf8.proofs.states.Goals as goal

pub returns : goal.returns
unfolding entries entries_from entry_of state_of due_in states row_of table
returns c = refl
