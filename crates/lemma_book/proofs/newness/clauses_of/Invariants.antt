-- The clauses so far.
use Rattle.std.proofs.Common.{◌≡◌, take}
use Rattle.unit_prop.specs.Log.{base_clauses}
use Rattle.lemma_book.proofs.newness.clauses_of.Given as goal

abbrev pub invariant-loop-named : goal.invariant-loop-named
invariant-loop-named l = l.clauses.items ≡ base_clauses (take l.named-index l.cone)
