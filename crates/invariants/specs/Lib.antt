pub mod SolvedForm
pub mod Tally
pub mod Occurring
pub mod Weight
pub mod SplitPicks
