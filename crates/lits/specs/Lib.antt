pub mod Clause
pub mod Assignment
pub mod Dimacs
pub mod Chains
pub mod Code
pub mod Finder
pub mod Same
pub mod Hints
