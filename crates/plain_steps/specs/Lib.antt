pub mod Decomposed
pub mod Join
pub mod JoinMade
pub mod JoinLaid
pub mod OnlyStep
pub mod Plain
pub mod StepParts
pub mod Singles
