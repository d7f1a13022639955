pub mod Facts
mod OutputLemmas
mod PoolLemmas
mod BegunLemmas
mod PatternLemmas
mod BlockLemmas
mod AdmittedLemmas
mod MeansLemmas
mod SweptLemmas
mod WithinLemmas
mod FilesLemmas
mod MiterTextLemmas
mod SessionLemmas
mod CountLemmas
mod ReductionLemmas
