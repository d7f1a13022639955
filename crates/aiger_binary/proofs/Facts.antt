-- What crates above may cite.

-- ---- gates that define the variables behind the inputs, in order and each over those before it

-- one more literal of a variable below a number
pub use Rattle.aiger_binary.proofs.StackLemmas.{AreBelow-push}
-- they make a circuit
pub use Rattle.aiger_binary.proofs.StackLemmas.{IsCircuit-stacked}
