use Rattle.std.proofs.Common.{take}
use Rattle.std.specs.List.{AllByRecursion}
use Rattle.unit_prop.specs.Log.{base_clauses}
use Rattle.lits.specs.Same.{same_lit, opposite}
use Rattle.solver_plain.specs.Effect.{IsQuiet}
use Rattle.solver_plain.proofs.formula.hint_in_base.Given as goal

abbrev pub invariant-loop-named : goal.invariant-loop-named
invariant-loop-named l = AllByRecursion (IsQuiet same_lit opposite l.set) (base_clauses (take l.named-index l.base))
