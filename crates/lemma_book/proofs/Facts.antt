-- What other crates may cite of this one.

-- each clause of a cone is the one that its name has
pub use Rattle.lemma_book.proofs.NamedClauses.{cone-named, output_cone-named}
-- what is found under a name, where each clause is the one that its name has
pub use Rattle.lemma_book.proofs.NamedClauses.{found-clause}
-- what entries show, longer lists of entries show too
pub use Rattle.lemma_book.proofs.NamedClauses.{clause-more}
-- the chains of steps of a good merge and of an output's log, over what an output's steps may cite
pub use Rattle.lemma_book.proofs.NamedClauses.{merge-chain_out, out_spent-chain}
-- the entry is good over those before it
pub use Rattle.lemma_book.proofs.GoodEntries.{IsGoodAfter}
-- a good entry from its steps, its input or its log
pub use Rattle.lemma_book.proofs.GoodEntries.{good-merge, good-apart, good-spent, good-out, good-out_apart, good-out_spent}
-- the chain of a good entry's steps
pub use Rattle.lemma_book.proofs.GoodEntries.{out-chain}
-- a chain is one over more clauses too
pub use Rattle.lemma_book.proofs.MoreClauses.{step_after-more, chain-more}
-- what is good over a book is good over a longer one, unless that settles it
pub use Rattle.lemma_book.proofs.LongerBooks.{good-longer}
-- a legal book stays legal with a good entry put last
pub use Rattle.lemma_book.proofs.LongerBooks.{legal-last}
-- a merged node has its target's value
pub use Rattle.lemma_book.proofs.TrueEntries.{merge-value}
-- in a legal book a merge's node and target have positions, and the target is the earlier one
pub use Rattle.lemma_book.proofs.MergedNodes.{root-unsettled, merge-placed, merge-earlier, placed-there}
-- nothing stands before itself
pub use Rattle.lemma_book.proofs.MergedNodes.{irreflexive}
-- a cone's names differ, and none is that of an own step
pub use Rattle.lemma_book.proofs.ConeLemmas.{cone-base}
-- what seeds reach is one set of nodes, so there is one cone
pub use Rattle.lemma_book.proofs.ConeLemmas.{cone-one}
-- what the miter's variables reach, and what a cone speaks of, are nodes that have variables
pub use Rattle.lemma_book.proofs.ConeLemmas.{reach-there, cone-over}
-- so it is with an output's cone: its names differ, there is one, and what it speaks of has variables
pub use Rattle.lemma_book.proofs.OutputCones.{output_cone-base, output_cone-one, cone_of-one, output_cone-over}
-- the nodes at which it begins have variables, and it reaches those of the constraints
pub use Rattle.lemma_book.proofs.OutputCones.{seeds-there, bounds-reached}
-- a node has a variable exactly where it is among the nodes
pub use Rattle.lemma_book.proofs.ThereLemmas.{is_some-variable}
-- the root of a literal of a legal book isn't merged, its position isn't above the literal's, and merges of later nodes keep it
pub use Rattle.lemma_book.proofs.UnmergedRoots.{root-unmerged, root-lower, root-kept, target-lower}
-- the clauses of some nodes of a cone are those that their names have, also for the steps of a merge where there is no XOR
pub use Rattle.lemma_book.proofs.PartLemmas.{on-named, IsNoXor, HasNodeName, on-node-named}
pub use Rattle.lemma_book.proofs.NamedClauses.{HasItsName}
-- literals of two nodes differ
pub use Rattle.lemma_book.proofs.FaninLemmas.{apart-lits}
-- the root of a negation is the negation of the root
pub use Rattle.lemma_book.proofs.RootLemmas.{root-opposite}
-- subjects that are found equal are one, and each equals itself
pub use Rattle.lemma_book.proofs.IndexLemmas.{exact-subject, same-subject_self}
-- what holds of each entry holds of the one about an output
pub use Rattle.lemma_book.proofs.IndexLemmas.{about-all}
-- ---- unit propagation over the clauses of a few nodes, a set of literals being closed under it

-- nodes that have those of some literals have those of their negations; the nodes of two lists have those of each, and of the list itself
pub use Rattle.lemma_book.proofs.AlongMerges.{covers-opposite, has-nodes_append, covers-left, covers-right, covers-self}
-- the set is closed under the axioms of an unmerged node
pub use Rattle.lemma_book.proofs.AlongMerges.{takes-axioms}
-- literals whose nodes have positions have variables; what is passed on the path to a root has both
pub use Rattle.lemma_book.proofs.AlongMerges.{ArePlacedAll, placed-all, passed-placed, passed-there}
-- a literal is in the set exactly where its root is, so two with one root are in it together
pub use Rattle.lemma_book.proofs.AlongMerges.{along, together}
-- what holds of the one at each place holds in turn
pub use Rattle.lemma_book.proofs.InTurn.{in_turn-each}
-- an output's XOR has a variable and is unmerged, no output's literal is over it, and what defines it
pub use Rattle.lemma_book.proofs.OutputXor.{xor-there, xor-variable, xor-unmerged, output-no_xor, xor-definition, xor-axioms_are}
-- an output without an entry is none's subject
pub use Rattle.lemma_book.proofs.OutputXor.{output-unsettled}
