pub mod Literals
pub mod Formula
pub mod Effect
pub mod Scan
pub mod Search
pub mod Solver
