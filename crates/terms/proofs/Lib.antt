pub mod KindLaws
pub mod Walk
