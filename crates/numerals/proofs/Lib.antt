pub mod ByteTests
pub mod DigitTests
pub mod KeyTurns
