pub mod NameWords
