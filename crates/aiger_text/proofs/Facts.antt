-- What crates above may cite.

-- ---- a circuit's texts spell it

-- the ASCII text, and the binary text of a circuit in AIGER's order
pub use Rattle.aiger_text.proofs.Ascii.{aiger-spells as ascii_spells}
pub use Rattle.aiger_text.proofs.Binary.{aiger-spells as binary_spells}
-- in AIGER's order no variable exceeds the number of inputs and gates
pub use Rattle.aiger_text.proofs.Binary.{IsBound-sequence}
