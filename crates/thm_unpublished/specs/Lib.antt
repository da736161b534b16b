pub mod Hidden
pub mod Alike
pub mod Same
pub mod Unpublished
pub mod Exported
pub mod Cases
