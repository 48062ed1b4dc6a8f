pub mod Bounding
pub mod JoiningMembers
pub mod ValueLaid
pub mod Making
pub mod OpenSplit
pub mod Tailing
