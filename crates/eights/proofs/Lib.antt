pub mod Copying
pub mod Eight
