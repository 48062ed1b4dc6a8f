pub mod EditionTwo
pub mod Examples
pub mod Promises
pub mod Searches
