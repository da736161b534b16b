pub mod PageShown
pub mod ShownCases
