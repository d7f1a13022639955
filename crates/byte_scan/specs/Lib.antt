pub mod Scanning
pub mod Faults
pub mod HeaderLine
pub mod Reading
