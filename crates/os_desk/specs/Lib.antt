pub mod OsDesk
pub mod Streams
