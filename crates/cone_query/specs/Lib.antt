pub mod Input
pub mod Query
pub mod Asked
pub mod Answered
