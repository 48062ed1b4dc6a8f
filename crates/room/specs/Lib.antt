pub mod Cases
pub mod Layout
pub mod Room
pub mod Parts
pub mod Replaced
