pub mod Facts
mod NameLemmas
mod SpanLemmas
