pub mod FieldLaws
pub mod DecimalDigits
