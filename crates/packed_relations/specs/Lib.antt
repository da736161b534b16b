pub mod Laws
pub mod Lent
pub mod Packed
pub mod PackedCases
pub mod Seen
pub mod WordCases
pub mod Words
