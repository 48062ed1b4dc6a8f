pub mod Choosing
pub mod Leaving
pub mod Showing
