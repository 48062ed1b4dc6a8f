pub mod Desk
pub mod ChildrenPassed
pub mod Path
pub mod Running
