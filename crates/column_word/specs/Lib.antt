pub mod Bits
pub mod Word
pub mod WordCases
