pub mod Asking
pub mod Holds
pub mod Started
