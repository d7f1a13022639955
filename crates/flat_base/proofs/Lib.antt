mod CodeLemmas
mod FlatLemmas
mod Facts
