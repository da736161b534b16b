pub mod Laws
pub mod Feed
pub mod WholeFront
pub mod Length
pub mod EveryRead
pub mod LimitLaws
pub mod Said
