pub mod Xorshift
pub mod Load
pub mod Code
pub mod Draws
pub mod LoadCases
pub mod Said
pub mod Words
