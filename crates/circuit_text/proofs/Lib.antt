mod DeltaLemmas
mod SymbolLemmas
mod BeginLemmas
