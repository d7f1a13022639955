pub mod Facts
mod DrawLemmas
mod PoolLemmas
mod PartLemmas
mod SomeRows
mod BitLemmas
mod RowLemmas
pub mod GateLemmas
