-- What crates above may cite.

-- no worker comes or goes
pub use Rattle.sweep_core.proofs.KeepLemmas.{event-workers}
-- an entry that settles another stands in the book
pub use Rattle.sweep_core.proofs.ReplayLemmas.{settled-below}
-- a book begins with itself
pub use Rattle.sweep_core.proofs.KeepLemmas.{starts-self}
