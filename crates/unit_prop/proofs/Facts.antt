-- What crates above may cite.
-- ---- what tests of literals find in lists of literals
pub use Rattle.unit_prop.proofs.LiteralLemmas.{alone, has-head, has-map-opposite}
-- a test isn't both true and false
pub use Rattle.unit_prop.proofs.LiteralLemmas.{contrary}
-- some literal of the list passes: it is in the list
pub use Rattle.unit_prop.proofs.LiteralLemmas.{witness}
-- the converse
pub use Rattle.unit_prop.proofs.LiteralLemmas.{passes}
-- what is in a filtered list
pub use Rattle.unit_prop.proofs.LiteralLemmas.{has-filter}
-- a test that passes all in the list
pub use Rattle.unit_prop.proofs.LiteralLemmas.{all-true}
-- the converse
pub use Rattle.unit_prop.proofs.LiteralLemmas.{all-at}
-- ---- what a step shows: its clause holds wherever the clauses that its hints name hold

-- a step's clause holds where the clauses that it is a step over hold
pub use Rattle.unit_prop.proofs.StepLemmas.{step-holds}
-- ---- what a chain of steps shows: each of its clauses holds wherever the clauses that it stands on hold
pub use Rattle.unit_prop.proofs.ChainLemmas.{in_turn-map, in_turn-append}
-- a base that is met, clause by clause
pub use Rattle.unit_prop.proofs.ChainLemmas.{all-base}
-- what a query makes of a log is a log again
pub use Rattle.unit_prop.proofs.ChainLemmas.{log-grows}
-- ---- how a set of literals grows into the closure
pub use Rattle.unit_prop.proofs.ClosureLemmas.{round-clash, round-last, consistent-push, round-next}
-- a set within another forces and negates no more
pub use Rattle.unit_prop.proofs.ClosureLemmas.{forces-more}
-- between the rounds: the set has what is given, is in each closed set, and has no literal beside its negation
pub use Rattle.unit_prop.proofs.ClosureLemmas.{IsRound}
-- ---- what closures and new clauses come to under assignments, and steps over more clauses

-- a step is one over more clauses too
pub use Rattle.unit_prop.proofs.AssignmentLemmas.{step-more}
-- ---- bases whose clauses all stand under their names

-- each clause of the list is the one of its name: such a base has no other clause under a name, and names each of its own
pub use Rattle.unit_prop.proofs.NameLemmas.{AreNamed, base_clause-is, named-all}
-- names that are found equal are one
pub use Rattle.unit_prop.proofs.NameLemmas.{exact-name}
-- a clause in front whose name no other has
pub use Rattle.unit_prop.proofs.NameLemmas.{named-cons}
-- ---- sets of literals that are closed under unit propagation by a clause

-- also where its repeated literals are written
pub use Rattle.unit_prop.proofs.ClosedSets.{Takes, takes-firsts}
-- the literal that a clause of one, two or three gives
pub use Rattle.unit_prop.proofs.ClosedSets.{take-one, take-first, take-second, take-head, take-third}
-- what all elements of a list have those of its last part have
pub use Rattle.unit_prop.proofs.CountLemmas.{all-back}
