pub mod Cases
pub mod Laws
pub mod LayoutFields
pub mod LayoutBegin
pub mod LayoutCommit
pub mod LayoutMessage
pub mod Said
