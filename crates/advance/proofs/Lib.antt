pub mod Laws
pub mod Taken
pub mod FourSteps
pub mod Several
pub mod Steps
