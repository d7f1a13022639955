pub mod Facts
mod LiteralLemmas
mod StepLemmas
mod ChainLemmas
mod OpenLemmas
mod AssumeLemmas
mod AskLemmas
mod ClosureLemmas
mod GivenLemmas
mod AssignmentLemmas
mod CountLemmas
mod BudgetLemmas
mod HintScanLemmas
mod NameLemmas
mod ClosedSets
