pub mod Printed
pub mod Stored
