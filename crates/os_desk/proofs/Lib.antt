mod StreamsLemmas
