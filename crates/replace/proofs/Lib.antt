pub mod Replacing
pub mod Word
