pub mod Desk
pub mod Pieces
pub mod MemDesk
pub mod MemFiles
