pub mod Read
pub mod Feed
pub mod WholeFront
pub mod Cases
pub mod LimitLaws
pub mod Said
pub mod Length
