pub mod EventLines
pub mod Spelling
pub mod Playing
