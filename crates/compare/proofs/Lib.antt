pub mod Arguing
pub mod Comparing
pub mod Matching
pub mod Meeting
