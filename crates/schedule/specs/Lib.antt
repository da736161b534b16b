pub mod NextStep
pub mod Promise
pub mod Said
