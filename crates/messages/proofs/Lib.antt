pub mod Laws
pub mod Text
pub mod FieldLayout
pub mod FieldsSent
pub mod AuthLayout
pub mod FieldsIndexed
