use Rattle.std.proofs.Common.{◌≡◌, List, ◌++◌, take}
use Rattle.std.specs.Prelude.{map}
use Rattle.lits.specs.Clause.{firsts}
use Rattle.lits.specs.declared.literal.Lit.{Lit}
use Rattle.lits.specs.Same.{same_lit}
use Rattle.solver_plain.specs.Literals.{variable_of}
use Rattle.solver_plain.proofs.literals.put_variables.Given as goal

abbrev pub invariant-loop-lit : goal.invariant-loop-lit
invariant-loop-lit l =
    (seen : List Lit) → l.fn.variables ≡ firsts same_lit seen
    → l.variables ≡ firsts same_lit (seen ++ map variable_of (take l.lit-index l.lits))
