-- What crates above may cite.

-- ---- counts and ranges

-- what is left of a count: one less after each, and in the end nothing
pub use Rattle.lits.proofs.ListLemmas.{left-more, left-none}
-- the test whether a number is less
pub use Rattle.lits.proofs.ListLemmas.{lt-true}
-- one number more; none stands before the first one, and none twice
pub use Rattle.lits.proofs.ListLemmas.{range-more, range-above, no_repeat-range}
-- ---- lists: what all elements have, and what some element passes

-- the element at a place has what all elements have
pub use Rattle.lits.proofs.ListLemmas.{all-slice_get}
-- lists that are joined, filtered or mapped
pub use Rattle.lits.proofs.ListLemmas.{all-append, all-parts, all-filter, all-map}
-- a test of some element of a mapped list, and a weaker test
pub use Rattle.lits.proofs.ListLemmas.{list_any-map, list_any-more}
-- one element more of the front of a list, and of a mapped one
pub use Rattle.lits.proofs.ListLemmas.{take_one, take_next, map_next}
-- a test that the next element passes after those so far, and one that an element doesn't pass
pub use Rattle.lits.proofs.ListLemmas.{list_all-next, list_all-fails}
-- ---- equal nodes and literals

-- those that are found equal are one
pub use Rattle.lits.proofs.SameLemmas.{exact-node, exact-lit}
-- and each equals itself
pub use Rattle.lits.proofs.SameLemmas.{same-node_self, same-lit_self}
-- ---- literals and clauses

-- what the lemmas use of a literal's `==` and negation
pub use Rattle.lits.proofs.ClauseLemmas.{IsLiteral, is_literal}
-- it holds of the two kinds of literal, and of nodes, which have no sign
pub use Rattle.lits.proofs.LitLaws.{lit_laws, dim_laws, node_laws}
-- x equals the negation of y exactly where y equals that of x
pub use Rattle.lits.proofs.ClauseLemmas.{eq-opposite}
-- a literal stands in joined lists where it stands in one, and among the first of each where it stands in the list
pub use Rattle.lits.proofs.ClauseLemmas.{has-append, has-firsts}
-- how the clause of a list grows with the list
pub use Rattle.lits.proofs.ClauseLemmas.{firsts-push, no_repeat-push, has_pair-push}
-- a pair among the literals seen so far and the next one stands among all of them
pub use Rattle.lits.proofs.ClauseLemmas.{has_pair-append}
-- no two literals have one code
pub use Rattle.lits.proofs.CodeLemmas.{own-code_of_lit, own-code_of_dim}
