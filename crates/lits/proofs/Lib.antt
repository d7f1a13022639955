pub mod Facts
mod ListLemmas
mod SameLemmas
mod ClauseLemmas
mod LitLaws
mod IndexLemmas
mod CodeLemmas
