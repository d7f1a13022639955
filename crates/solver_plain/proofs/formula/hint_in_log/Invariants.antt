use Rattle.std.proofs.Common.{take}
use Rattle.std.specs.Prelude.{map}
use Rattle.std.specs.List.{AllByRecursion}
use Rattle.lits.specs.Same.{same_lit, opposite}
use Rattle.solver_plain.specs.Effect.{IsQuiet}
use Rattle.solver_plain.proofs.formula.hint_in_log.Given as goal

abbrev pub invariant-loop-place : goal.invariant-loop-place
invariant-loop-place l = AllByRecursion (IsQuiet same_lit opposite l.set) (map (λ s. s.clause) (take l.place l.log))
