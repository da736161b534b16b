pub mod Advance
pub mod Steps
pub mod AtHand
