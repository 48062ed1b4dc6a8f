pub mod KeptTails
pub mod OccursAfter
pub mod Shared
