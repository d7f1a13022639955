pub mod Line
pub mod Script
pub mod Fault
pub mod Edited
