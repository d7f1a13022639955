mod FlatLemmas
