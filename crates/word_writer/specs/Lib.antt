pub mod Pen
pub mod OpenBrackets
pub mod WordByWord
pub mod Depths
pub mod Writing
pub mod Passages
pub mod Guarded
pub mod Tied
