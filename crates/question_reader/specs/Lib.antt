pub mod Questions
pub mod WholePlaces
