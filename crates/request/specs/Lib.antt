pub mod Request
pub mod ReadBack
pub mod AnyRequest
