pub mod Laws
pub mod Signed
pub mod FieldLaws
pub mod FindLaws
pub mod Pieces
pub mod Cases
pub mod AllValues
