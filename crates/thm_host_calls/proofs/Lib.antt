pub mod Mixed
pub mod Reader
pub mod NextStep
pub mod Steps
pub mod Words
pub mod Told
pub mod Shared
