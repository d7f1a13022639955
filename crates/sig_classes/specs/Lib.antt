pub mod Leader
pub mod Alike
pub mod Chains
pub mod Pass
pub mod Kept
