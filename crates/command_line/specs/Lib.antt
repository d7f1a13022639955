pub mod Commands
pub mod Table
pub mod Saved
pub mod Words
pub mod Answers
pub mod Parsing
pub mod Plain
pub mod PlainWords
