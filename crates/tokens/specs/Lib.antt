pub mod Words
pub mod Numbers
pub mod Text
pub mod Reading
