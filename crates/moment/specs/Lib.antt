pub mod Moment
pub mod MomentCases
pub mod MomentLaws
