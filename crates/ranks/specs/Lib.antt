pub mod Ranked
pub mod Ranks
