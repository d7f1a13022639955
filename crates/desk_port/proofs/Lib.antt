mod FilesLemmas
mod WriteLemmas
mod PieceLemmas
pub mod Facts
