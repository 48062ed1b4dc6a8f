pub mod Looping
pub mod RootRun
