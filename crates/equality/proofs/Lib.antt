pub mod CheckedTerms
