pub mod Spots
pub mod Walk
pub mod Numbered
