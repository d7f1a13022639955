mod LineLemmas
mod FirstsLemmas
mod ClauseLemmas
mod DistinctLemmas
mod EntryLemmas
mod TextLemmas
