-- What crates above may cite.

-- ---- a text line by line

-- lines that were read before what is left: none so far, one more, all, and others behind them
pub use Rattle.lrat_text.proofs.LoopLemmas.{with_front, front-nothing, front-more, front-all, front-rest}
-- a fault of what is left is that of the whole
pub use Rattle.lrat_text.proofs.LoopLemmas.{front-fault}
-- the next line, or none
pub use Rattle.lrat_text.proofs.LoopLemmas.{next-some, next-none}
-- a fault of the next line is the first of what is left
pub use Rattle.lrat_text.proofs.LoopLemmas.{next-fault}
-- ---- lines that derive

-- one more, and what is live behind it
pub use Rattle.lrat_text.proofs.DerivationLemmas.{derives-push, live_after-push}
