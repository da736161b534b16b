pub mod ServerDone
pub mod Cases
