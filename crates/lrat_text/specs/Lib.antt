pub mod Numbers
pub mod Steps
pub mod Reading
pub mod Lines
pub mod Writing
pub mod Derivation
pub mod Parts
