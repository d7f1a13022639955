pub mod Reduced
pub mod Mirror
pub mod Mirroring
pub mod Marks
pub mod Renumbering
