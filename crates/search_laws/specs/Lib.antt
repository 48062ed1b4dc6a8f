pub mod ChoiceNumbers
pub mod Going
pub mod Picking
