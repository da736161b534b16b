pub mod Alike
pub mod Cases
pub mod Kept
pub mod Leaves
pub mod Moved
pub mod Says
pub mod Seen
