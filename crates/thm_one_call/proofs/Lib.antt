pub mod Effects
pub mod Session
