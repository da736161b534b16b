pub mod Drain
pub mod Laws
