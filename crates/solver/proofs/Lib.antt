pub mod Rooting
pub mod TestsPassed
