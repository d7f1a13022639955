-- The negations so far.
use Rattle.std.proofs.Common.{◌≡◌, take}
use Rattle.lits.specs.Same.{same_lit, opposite}
use Rattle.unit_prop.specs.New.{others_negated}
use Rattle.lemma_book.proofs.newness.others_negated.Given as goal

abbrev pub invariant-loop-other : goal.invariant-loop-other
invariant-loop-other l = l.others.items ≡ others_negated same_lit opposite (take l.other-index l.clause) l.lit
