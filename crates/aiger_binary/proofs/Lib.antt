pub mod Facts
mod StackLemmas
mod LoopLemmas
