use Rattle.std.proofs.Common.{◌≡◌, take}
use Rattle.solver_plain.specs.Formula.{variables_of}
use Rattle.solver_plain.proofs.formula.Formula.of.Given as goal

abbrev pub invariant-loop-named : goal.invariant-loop-named
invariant-loop-named l = record {
  variables : l.variables ≡ variables_of (take l.named-index l.base);
  copied : l.copies.items ≡ take l.named-index l.base;
}
