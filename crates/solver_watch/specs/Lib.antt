pub mod Assuming
pub mod Marked
pub mod Known
pub mod Choice
pub mod Search
