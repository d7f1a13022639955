pub mod Strash
pub mod Pass
pub mod Coded
pub mod Words
pub mod Shapes
pub mod Codes
pub mod Twins
pub mod Merged
