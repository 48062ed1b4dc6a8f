pub mod StepView
pub mod Verdicts
