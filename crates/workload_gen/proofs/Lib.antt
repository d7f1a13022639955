mod SequenceLemmas
mod BelowLemmas
mod ParityLemmas
mod AdderLemmas
mod ComparatorLemmas
mod AlikeLemmas
mod SpellLemmas
