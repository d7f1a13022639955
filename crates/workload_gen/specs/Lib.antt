pub mod Gates
pub mod Parity
pub mod Adder
pub mod Comparator
pub mod Workload
