pub mod Answer
pub mod Bytes
pub mod Cases
pub mod Field
pub mod Find
pub mod Int
pub mod AllValues
