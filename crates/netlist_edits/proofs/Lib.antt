pub mod Facts
mod WordLemmas
mod EarlierLemmas
mod ScriptLemmas
