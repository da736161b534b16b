pub mod Cases
pub mod Laws
pub mod ReadBack
pub mod Spelled
pub mod PositionLaws
