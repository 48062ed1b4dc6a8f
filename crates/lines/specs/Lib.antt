pub mod Lines
pub mod ListLines
