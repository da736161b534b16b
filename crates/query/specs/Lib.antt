pub mod DataRow
pub mod DataRowLayout
pub mod Query
pub mod Fold
pub mod Played
pub mod Code
pub mod Cases
pub mod Said
