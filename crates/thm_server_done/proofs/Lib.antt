pub mod ServerDone
