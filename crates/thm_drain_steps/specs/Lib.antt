pub mod DrainSteps
