pub mod Line
pub mod DecimalField
