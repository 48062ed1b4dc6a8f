pub mod Occurrence
