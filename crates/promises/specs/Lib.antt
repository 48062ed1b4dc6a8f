pub mod Wording
pub mod Searches
