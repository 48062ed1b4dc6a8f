pub mod Walks
pub mod StepTests
pub mod Firsts
