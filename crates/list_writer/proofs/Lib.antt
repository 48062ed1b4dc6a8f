pub mod Listings
pub mod AnswerLists
