pub mod ReadSame
pub mod HeldFront
pub mod SeveralSteps
