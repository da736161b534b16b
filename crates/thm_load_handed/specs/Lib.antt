pub mod LoadHanded
pub mod Premises
pub mod Reached
pub mod Words
