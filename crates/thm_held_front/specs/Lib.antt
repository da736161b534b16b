pub mod HeldFront
pub mod SeveralSteps
