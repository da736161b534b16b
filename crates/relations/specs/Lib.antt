pub mod Answers
pub mod Cache
pub mod CacheCases
pub mod Laws
pub mod Memory
pub mod Seen
pub mod VariantLaws
