pub mod Code
pub mod Frontend
pub mod Startup
pub mod ReadBack
pub mod Cases
pub mod StartupStrings
