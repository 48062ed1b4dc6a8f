pub mod Calls
pub mod Notions
