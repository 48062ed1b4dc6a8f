pub mod Desking
pub mod OpenedNode
pub mod Hearing
pub mod UnopenedNode
pub mod Sounding
pub mod GoesOn
pub mod Turning
