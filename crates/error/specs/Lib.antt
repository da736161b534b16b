pub mod Cases
pub mod Inputs
pub mod Refusal
pub mod Writer
pub mod AnswerLaws
