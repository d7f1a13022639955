mod LiveLemmas
mod VerdictLemmas
mod TextLemmas
mod RenamedSteps
mod RenamedVerdicts
mod Numberings
