pub mod Answered
pub mod Replies
