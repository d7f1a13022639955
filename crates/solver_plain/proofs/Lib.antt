pub mod Facts
mod ListLemmas
mod EffectLemmas
mod NameLemmas
mod FormulaLemmas
mod ScanLemmas
mod SearchLemmas
mod ModelLemmas
mod SettleLemmas
mod GuardLemmas
