mod LoopLemmas
