pub mod Draft
pub mod Levels
pub mod Steps
pub mod Buckets
