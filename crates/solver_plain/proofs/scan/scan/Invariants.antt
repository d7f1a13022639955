use Rattle.std.proofs.Common.{length}
use Rattle.std.specs.Prelude.{filter}
use Rattle.solver_plain.specs.Literals.{is_free}
use Rattle.solver_plain.specs.Formula.{variables_of}
use Rattle.solver_plain.proofs.ScanLemmas.{IsScanning}
use Rattle.solver_plain.proofs.scan.scan.Given as goal

abbrev pub invariant-loop-hint : goal.invariant-loop-hint
invariant-loop-hint l = IsScanning l.formula l.fn.set l.set l.hints.items

abbrev pub decreases-loop-hint : goal.decreases-loop-hint
decreases-loop-hint l = length (filter (is_free l.set) (variables_of l.formula.base))
