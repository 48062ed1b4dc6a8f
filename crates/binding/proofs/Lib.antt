pub mod Absent
pub mod BindingPieces
pub mod Finishing
pub mod RestCopied
pub mod EntriesRead
