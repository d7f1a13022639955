mod KeepLemmas
mod RunLemmas
mod ReplayLemmas
pub mod Facts
