pub mod History
pub mod Laws
pub mod Ledger
pub mod Stands
pub mod Undone
