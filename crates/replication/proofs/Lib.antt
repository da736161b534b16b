pub mod Cases
pub mod Laws
pub mod LayoutXLogData
pub mod LayoutKeepAlive
pub mod Said
