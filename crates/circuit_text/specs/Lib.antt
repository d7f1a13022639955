pub mod Lines
pub mod Symbols
pub mod AsciiText
pub mod BinaryText
