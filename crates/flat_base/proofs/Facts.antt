-- What crates above may cite.

-- codes and their literals stay where variables come after
pub use Rattle.flat_base.proofs.CodeLemmas.{lit_at-more, code-more, clause_at-more, codes-more}
