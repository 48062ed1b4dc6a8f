pub mod Noting
pub mod RowAnswer
