pub mod Fields
pub mod FieldLayout
pub mod ErrorText
pub mod Auth
pub mod FieldsSent
pub mod AuthLayout
pub mod FieldsIndexed
