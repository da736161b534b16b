pub mod Difference
pub mod Floor
pub mod Laws
pub mod Reading
pub mod Said
pub mod Time
