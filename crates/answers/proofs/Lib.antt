pub mod DemandTwo
pub mod SolvedExactly
pub mod Examples
pub mod Runs
