mod LaneLemmas
mod KnownLemmas
