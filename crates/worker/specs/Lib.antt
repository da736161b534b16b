pub mod Tests
pub mod Run
pub mod Events
pub mod Streaming
pub mod Step
pub mod Session
pub mod Answer
pub mod Said
