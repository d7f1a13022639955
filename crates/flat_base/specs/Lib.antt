pub mod Codes
pub mod Flat
