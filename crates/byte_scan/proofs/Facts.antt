-- What crates above may cite.
-- ---- words that are numbers, by the digits in front
pub use Rattle.byte_scan.proofs.WordLemmas.{is_number-other}
-- a word that isn't empty and is as long as its digits in front is a number
pub use Rattle.byte_scan.proofs.WordLemmas.{is_number-whole}
-- ---- what a function answers, from its cases

-- a fault of what is read first is that of the whole
pub use Rattle.byte_scan.proofs.ReadingLemmas.{IsFault-bind}
-- ---- the tail

-- without symbol lines nothing has a name
pub use Rattle.byte_scan.proofs.TailLemmas.{names-none}
