pub mod Laws
mod Table
mod States
mod Pairs
mod Turns
pub mod Parts
pub mod Stretches
mod Written
pub mod Marks
pub mod Encoding
pub mod Automaton
pub mod Division
pub mod Answers
mod Windows
