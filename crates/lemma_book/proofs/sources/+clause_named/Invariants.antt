-- The rest of the cone is shorter.
use Rattle.std.proofs.Common.{length}
use Rattle.lemma_book.proofs.sources.+clause_named.Given as goal

abbrev pub decreases-clause_named : goal.decreases-clause_named
decreases-clause_named l = length l.cone.now
