pub mod Patterns
pub mod Storage
pub mod Rows
pub mod Gates
