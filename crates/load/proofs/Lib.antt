pub mod Laws
pub mod Bits
pub mod Draws
pub mod Bytes
pub mod Cases
pub mod Said
