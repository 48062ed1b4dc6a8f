-- What follows of searches and runs: more lent, same list (`Agreeing`); the visits of a tree (`Visiting`); that it ends (`Measures`, `Ending`). proofs/Searches
-- has the rest.
pub mod Agreeing
pub mod Visiting
pub mod Measures
pub mod Ending
