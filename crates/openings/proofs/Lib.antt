pub mod Continuing
pub mod SplitOpened
pub mod SplitSides
pub mod StartedSplit
