pub mod Subjects
pub mod Promised
pub mod Examples
