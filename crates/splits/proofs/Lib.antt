pub mod NothingBound
pub mod SameTail
pub mod Sharing
pub mod SharedValues
pub mod Twice
pub mod BothBound
