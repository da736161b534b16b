pub mod Laws
pub mod EventLines
