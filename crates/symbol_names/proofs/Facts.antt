-- What crates above may cite.

-- ---- one place for each input and output, and at each a name or none

-- without any name
pub use Rattle.symbol_names.proofs.NameLemmas.{AreNames-unnamed}
-- bytes without LF are a name, or none
pub use Rattle.symbol_names.proofs.NameLemmas.{is_name-of}
-- one place has another name
pub use Rattle.symbol_names.proofs.NameLemmas.{all-set}
