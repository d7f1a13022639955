pub mod Facts
mod MirrorNumbers
mod MirrorBooks
mod MirrorGates
mod MirrorSteps
mod OtherSecond
mod MirrorEnds
mod FilterLemmas
mod NodesOfA
mod ReachedNodes
mod MarkLemmas
mod OrderLemmas
mod NamedValues
mod ValueLemmas
mod OneCircuit
mod NumberLemmas
