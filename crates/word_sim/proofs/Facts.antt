-- What crates above may cite.
-- ---- bits of words: a comparison either way, a bit of an AND, of a word under a mask of all bits or none
pub use Rattle.word_sim.proofs.BitLemmas.{less, and-bit, turned-bit}
-- the bits of an AND of two rows, and of a row whose last word was masked
pub use Rattle.word_sim.proofs.BitLemmas.{gate-bits, tail-cleared}
-- ---- rows that stand one after another: one that is written behind what is done, and an earlier one
pub use Rattle.word_sim.proofs.RowLemmas.{put-part, row-kept, row-there}
-- one row more, and the bits of equal values
pub use Rattle.word_sim.proofs.RowLemmas.{filled-next, bits-same}
-- the gates of a net in a list
pub use Rattle.word_sim.proofs.RowLemmas.{gate-there, gates-last}
-- more rows are at least as long
pub use Rattle.word_sim.proofs.PoolLemmas.{times-mono}
-- ---- there are rows for each list of patterns, if only as a definition
pub use Rattle.word_sim.proofs.SomeRows.{some-signatures}
