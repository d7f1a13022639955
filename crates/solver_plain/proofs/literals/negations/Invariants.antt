use Rattle.std.proofs.Common.{◌≡◌, take}
use Rattle.std.specs.Prelude.{map}
use Rattle.lits.specs.Clause.{firsts}
use Rattle.lits.specs.Same.{same_lit, opposite}
use Rattle.solver_plain.proofs.literals.negations.Given as goal

abbrev pub invariant-loop-lit : goal.invariant-loop-lit
invariant-loop-lit l = l.set ≡ map opposite (firsts same_lit (take l.lit-index l.lits))
