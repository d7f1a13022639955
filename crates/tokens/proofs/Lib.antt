pub mod Facts
mod WordLemmas
mod NumberLemmas
mod NumeralLemmas
mod TokenLemmas
mod LineLemmas
mod GivesLemmas
mod TextLemmas
