-- What crates above may cite.

-- the entry that is found on an output is about it
pub use Rattle.check_session.proofs.OutputLemmas.{about-subject}
