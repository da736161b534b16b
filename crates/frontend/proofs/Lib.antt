pub mod Laws
pub mod StartupBack
pub mod ServerReads
pub mod StartupStrings
