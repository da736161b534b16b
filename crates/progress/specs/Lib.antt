pub mod Progress
pub mod Calls
pub mod Files
pub mod FileCalls
pub mod Said
