pub mod Verdict
pub mod Text
pub mod Live
pub mod Renamed
