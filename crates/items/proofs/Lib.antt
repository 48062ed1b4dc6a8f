pub mod FirstByte
pub mod AfterItem
pub mod WordsSoFar
