pub mod CopyData
pub mod CopyDataCases
pub mod CopyDataLayout
pub mod Said
