pub mod Became
pub mod Next
pub mod Quiet
pub mod NoChoice
