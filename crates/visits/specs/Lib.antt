pub mod ChildNumber
pub mod DueNode
