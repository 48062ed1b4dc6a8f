pub mod Terms
pub mod ReadingPlaces
pub mod ReadingAnswers
