pub mod LabelsWritten
pub mod Staying
pub mod Scanning
