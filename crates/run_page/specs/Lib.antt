pub mod RunPage
pub mod RunLines
