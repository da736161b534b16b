pub mod Laws
pub mod Screen
pub mod PageLines
