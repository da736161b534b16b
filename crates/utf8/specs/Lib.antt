pub mod WellFormed
pub mod Automaton
