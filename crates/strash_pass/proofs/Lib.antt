pub mod Facts
mod WordLemmas
mod HintLemmas
mod MergeLemmas
mod GatePropagation
mod GateFacts
mod ShowsLemmas
mod WayLemmas
mod TwinLemmas
mod AddsLemmas
mod PassLemmas
mod MergedLemmas
mod PlaceLemmas
mod CodeLemmas
mod TwinTable
mod GateWords
mod ShapeLemmas
