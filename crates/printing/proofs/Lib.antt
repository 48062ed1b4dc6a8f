pub mod Printing
pub mod Enough
