pub mod Facts
mod Reading
mod Lines
mod Finished
mod HeaderLine
mod Sections
mod Within
mod SymbolLines
mod Names
mod Ascii
mod Deltas
mod Binary
mod WorkedRows
