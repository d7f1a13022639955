mod JudgingLemmas
