pub mod Counting
pub mod Equating
pub mod Frame
pub mod EquationsWritten
pub mod Noting
pub mod Opens
