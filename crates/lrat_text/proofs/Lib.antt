pub mod Facts
mod PartLemmas
mod SplitLemmas
mod TextLemmas
mod DerivationLemmas
mod PlaceLemmas
mod ReadLemmas
mod LoopLemmas
mod FaultLemmas
mod StopLemmas
