pub mod Gathering
pub mod Joins
pub mod Pairing
