pub mod BitLaws
pub mod Cases
pub mod EntryLaws
pub mod Exact
pub mod Laws
pub mod Walk
pub mod WalkLaws
pub mod WordLaws
