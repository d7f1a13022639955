pub mod Facts
mod WritingLemmas
