pub mod Mixed
pub mod HostWords
pub mod Exported
pub mod Told
pub mod Shared
