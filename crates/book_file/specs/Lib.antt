pub mod Words
pub mod Lines
pub mod Reading
pub mod Writing
pub mod Loaded
pub mod Loading
pub mod Drafts
