pub mod Check
pub mod Checked
pub mod Lent
pub mod Pushed
pub mod Short
