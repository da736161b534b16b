pub mod Message
pub mod Cut
pub mod Tag
pub mod Frame
pub mod TagCases
