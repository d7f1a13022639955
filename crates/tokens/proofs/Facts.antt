-- What crates above may cite.

-- ---- what was answered is what is read

-- an equation gives the clause
pub use Rattle.tokens.proofs.GivesLemmas.{gives-same}
-- a fault of a part is that of the whole
pub use Rattle.tokens.proofs.GivesLemmas.{gives-fault}
-- ---- lines that are read

-- what is ahead behind some bytes more
pub use Rattle.tokens.proofs.LineLemmas.{ahead-moved}
-- a line is read from a place on, and the scan then stands at another
pub use Rattle.tokens.proofs.LineLemmas.{ReadsLine}
-- as `Scan::line` does
pub use Rattle.tokens.proofs.LineLemmas.{reads_line}
-- ---- words without their places

pub use Rattle.tokens.proofs.WordLemmas.{bytes_of}
-- where a line stands changes nothing but the places of its words
pub use Rattle.tokens.proofs.WordLemmas.{placed_words-bytes}
-- and a line without words has none anywhere
pub use Rattle.tokens.proofs.WordLemmas.{placed_words-none}
-- ---- words that are written

-- a word as it is written: one byte or more, all of them behind the space
pub use Rattle.tokens.proofs.TokenLemmas.{IsToken}
-- the text of a number, and of a literal
pub use Rattle.tokens.proofs.TokenLemmas.{IsToken-decimal, IsToken-literal}
-- a test that takes the space for a blank, and no byte behind it: both tests of this crate do
pub use Rattle.tokens.proofs.TokenLemmas.{PartsTokens, PartsTokens-space, PartsTokens-whitespace}
-- words with one space between are the words of their line
pub use Rattle.tokens.proofs.TokenLemmas.{words_by-joined}
-- and no line ends among them
pub use Rattle.tokens.proofs.TokenLemmas.{joined-one_line}
-- what has a space behind each word but the last has one space between
pub use Rattle.tokens.proofs.TokenLemmas.{trailed-joined}
-- lines that are ended are the lines of their text, and an empty one stands behind them
pub use Rattle.tokens.proofs.TokenLemmas.{lines-ended}
-- ---- numbers that are written

-- the text of a number writes its size, and the number without a sign
pub use Rattle.tokens.proofs.NumeralLemmas.{size_in-decimal, number_in-decimal}
-- one of 10 ^ 18 and more writes some number too
pub use Rattle.tokens.proofs.NumeralLemmas.{number_in-any}
-- the text of a literal writes its number
pub use Rattle.tokens.proofs.NumeralLemmas.{number_in-literal}
-- ---- texts that grow

-- what grew from a text grew from that with more behind it
pub use Rattle.tokens.proofs.TextLemmas.{begins_after}
