pub mod AnswerPut
pub mod AnswerNoted
