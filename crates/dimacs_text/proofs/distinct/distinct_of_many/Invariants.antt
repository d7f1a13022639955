-- What is kept are the first ones among the literals so far, and the set has their codes.
use Rattle.std.proofs.Common.{◌≡◌, take}
use Rattle.lits.specs.Clause.{firsts}
use Rattle.lits.specs.Same.{same_dim}
use Rattle.dimacs_text.proofs.DistinctLemmas.{HasCodes}
use Rattle.dimacs_text.proofs.distinct.distinct_of_many.Given as goal

abbrev pub invariant-loop-literal : goal.invariant-loop-literal
invariant-loop-literal l = record {
  first : l.kept.items ≡ firsts same_dim (take l.literal-index l.literals);
  codes : HasCodes l.codes l.kept.items;
}
