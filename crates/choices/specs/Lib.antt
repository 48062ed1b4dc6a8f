pub mod Digits
pub mod Gathered
pub mod Open
pub mod OpenParent
pub mod MemberPlaces
pub mod GatheredPicks
