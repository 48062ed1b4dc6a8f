pub mod JoinAsked
pub mod Only
pub mod ReadyRow
pub mod StepAsked
