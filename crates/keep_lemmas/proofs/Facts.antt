-- What crates above may cite.

-- each entry that is kept says that two values are equal
pub use Rattle.keep_lemmas.proofs.KeptAnswers.{kept-equal}
-- each input that a legal book hands out has a truth value for each input of the circuits
pub use Rattle.keep_lemmas.proofs.KeptAnswers.{handed-whole}
-- what no edit touches is as it was
pub use Rattle.keep_lemmas.proofs.EditedNets.{NetStays, edits-stay}
-- what is good over some entries, and stays, is good under new numbers over others that have those that it cites
pub use Rattle.keep_lemmas.proofs.KeptEntries.{good-stays}
