pub mod Facts
mod VariableLemmas
mod LevelLemmas
mod FaninLemmas
mod PathLemmas
mod BucketLemmas
mod OrderLemmas
mod CycleLemmas
mod FinishLemmas
mod ByLevelLemmas
mod InOrderLemmas
