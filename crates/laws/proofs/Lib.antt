pub mod Agree
pub mod Apart
pub mod Members
pub mod Rank
pub mod Solving
pub mod Tails
