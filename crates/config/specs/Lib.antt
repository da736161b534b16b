pub mod Code
pub mod OptionValue
pub mod ReadBack
pub mod ValueLaws
