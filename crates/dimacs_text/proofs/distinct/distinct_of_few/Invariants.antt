-- What is kept are the first ones among the literals so far.
use Rattle.std.proofs.Common.{◌≡◌, take}
use Rattle.lits.specs.Clause.{firsts}
use Rattle.lits.specs.Same.{same_dim}
use Rattle.dimacs_text.proofs.distinct.distinct_of_few.Given as goal

abbrev pub invariant-loop-literal : goal.invariant-loop-literal
invariant-loop-literal l = l.kept.items ≡ firsts same_dim (take l.literal-index l.literals)
