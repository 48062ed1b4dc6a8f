-- One step of the search: what a state says, that its children say no more (`Sound`) and lose nothing (`Complete`).
pub mod Meaning
pub mod StateChanges
pub mod Binding
pub mod Picks
pub mod Forming
pub mod Kept
pub mod PileSays
pub mod Sound
pub mod DeadEnds
pub mod Renewing
pub mod Splitting
pub mod Complete
