pub mod Clock
pub mod Read
pub mod Promise
pub mod Said
