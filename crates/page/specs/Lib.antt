pub mod Page
pub mod PageCases
pub mod Reader
pub mod PageLines
