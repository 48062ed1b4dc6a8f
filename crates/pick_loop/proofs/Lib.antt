pub mod Advancing
pub mod Numbering
pub mod PassedDead
pub mod Radices
pub mod Repicking
pub mod ToldBefore
