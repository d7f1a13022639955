-- What crates above may cite.
-- ---- what tests of literals find in lists, and what holds of each element of a list
pub use Rattle.solver_plain.proofs.ListLemmas.{all-each, all-left, list_all-not, each-at, each-of}
-- no element passes a test exactly where each fails it
pub use Rattle.solver_plain.proofs.ListLemmas.{all-fail}
-- ---- what a clause does under a set, and what that makes of the state of a step

-- a clause that is wholly negated ends a step
pub use Rattle.solver_plain.proofs.EffectLemmas.{after-negated}
-- a clause with one free literal adds it
pub use Rattle.solver_plain.proofs.EffectLemmas.{after-unit}
-- ---- what the clauses of names are
pub use Rattle.solver_plain.proofs.NameLemmas.{own-at}
-- the clause of a name is the one that bears it
pub use Rattle.solver_plain.proofs.NameLemmas.{base_clause-at}
-- a clause of the base keeps its name beside a log
pub use Rattle.solver_plain.proofs.NameLemmas.{named-base}
-- a clause of the log is the one of its own step
pub use Rattle.solver_plain.proofs.NameLemmas.{named-log}
-- ---- the variables of a base, and which literals are over it
pub use Rattle.solver_plain.proofs.FormulaLemmas.{over-opposite}
-- each literal of each clause occurs in the clauses
pub use Rattle.solver_plain.proofs.FormulaLemmas.{all-occur}
-- ---- the steps of a scan
pub use Rattle.solver_plain.proofs.ScanLemmas.{brings-push}
-- the hints bring a step from one state to another
pub use Rattle.solver_plain.proofs.ScanLemmas.{Brings}
-- hints that end at a wholly negated clause have no fault
pub use Rattle.solver_plain.proofs.ScanLemmas.{brings-fault}
-- ---- the steps of a search, and what a clash teaches

-- a list without a pair has no literal beside its negation
pub use Rattle.solver_plain.proofs.SearchLemmas.{consistent-clause}
-- ---- a closure that has every variable of the base is a model of it

-- where no literal of the list stands beside its negation there is no pair
pub use Rattle.solver_plain.proofs.ModelLemmas.{pair-none}
-- what follows from two facts of each clause
pub use Rattle.solver_plain.proofs.ModelLemmas.{all-both}
-- ---- the steps of a query: each learned step joins the log for one unit
pub use Rattle.solver_plain.proofs.SettleLemmas.{way-start, way-next}
-- what a query over the formula `first` with `left` units has made of formula and units so far
pub use Rattle.solver_plain.proofs.SettleLemmas.{IsUnderWay}
-- ---- what tests' guards show of a base with one name more, and of a literal more that is over it
pub use Rattle.solver_plain.proofs.GuardLemmas.{base-cons, over-cons}
