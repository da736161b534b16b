pub mod Hex
pub mod Position
pub mod PositionCases
pub mod Spelled
pub mod PositionLaws
