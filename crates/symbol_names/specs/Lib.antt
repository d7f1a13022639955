pub mod NameList
pub mod Names
