pub mod Stack
pub mod WordSteps
