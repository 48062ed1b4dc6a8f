pub mod Falling
pub mod JoinFalls
pub mod Orderly
pub mod Tree
