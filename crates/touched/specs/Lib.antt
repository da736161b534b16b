pub mod Bits
pub mod Code
pub mod Exact
pub mod ListLaws
pub mod Touched
pub mod TouchedCases
pub mod Walk
pub mod Words
