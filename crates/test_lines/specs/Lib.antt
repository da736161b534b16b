pub mod Fields
pub mod Line
