pub mod Laws
pub mod DataRowLayout
pub mod Play
pub mod Said
