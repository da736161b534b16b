pub mod Cases
pub mod Held
pub mod Leaves
pub mod Messages
pub mod Seen
pub mod Stored
pub mod Theorems
pub mod VariantLaws
