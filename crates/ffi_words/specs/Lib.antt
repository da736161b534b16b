pub mod Words
pub mod Cells
pub mod Step
pub mod Calls
pub mod Missing
