pub mod QuestionWalk
pub mod WrittenAnswer
