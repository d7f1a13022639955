-- What crates above may cite.
-- ---- a draft whose uses are defined is a circuit once its gates are in order
pub use Rattle.circuit_draft.proofs.FinishLemmas.{finished-order}
-- two lists that hold the same variables
pub use Rattle.circuit_draft.proofs.FinishLemmas.{Same, Same-push}
-- ---- where the file's order serves, each gate has a level
pub use Rattle.circuit_draft.proofs.InOrderLemmas.{no_cycle-order}
