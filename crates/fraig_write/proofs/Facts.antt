-- What crates above may cite.

-- beside another circuit nodes of A keep their values, what has a position in a pair whose B has no gates is of A, and a legal book about
-- A stays legal
pub use Rattle.fraig_write.proofs.OtherSecond.{holds-same, legal-other, placed-of_a, value-same}
