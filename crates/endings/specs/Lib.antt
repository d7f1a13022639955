pub mod Status
pub mod Stops
pub mod Reading
pub mod Writing
