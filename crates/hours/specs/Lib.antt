pub mod Answer
pub mod Calendar
pub mod Code
pub mod HoursCases
pub mod Reading
pub mod Said
pub mod Time
pub mod Words
