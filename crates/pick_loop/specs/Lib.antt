pub mod PicksInScratch
pub mod Shown
