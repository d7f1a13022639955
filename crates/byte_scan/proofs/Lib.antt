pub mod Facts
mod LineLemmas
mod DigitLemmas
mod WordLemmas
mod NineLemmas
mod WordsLemmas
mod PlaceLemmas
mod ReadingLemmas
mod TailLemmas
