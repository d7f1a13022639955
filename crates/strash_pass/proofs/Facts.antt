-- What crates above may cite.

-- a gate by its number among those of A and then of B: its position, what defines it, and that its fanins stand earlier
pub use Rattle.strash_pass.proofs.GateFacts.{IsGate, is-gate}
-- gate j of a side is that gate of all
pub use Rattle.strash_pass.proofs.GateFacts.{gate-a, gate-b}
-- two nodes of which one stands earlier differ
pub use Rattle.strash_pass.proofs.GateFacts.{apart-placed}
