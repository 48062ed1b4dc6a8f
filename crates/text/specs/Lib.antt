pub mod Keys
pub mod Text
pub mod AnswerText
pub mod Decimal
pub mod Sizes
pub mod ListSizes
