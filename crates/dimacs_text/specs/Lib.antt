pub mod CnfText
pub mod Words
pub mod Reading
pub mod Clauses
