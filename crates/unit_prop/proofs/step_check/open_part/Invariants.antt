-- The literals so far are negated.
use Rattle.std.proofs.Common.{◌≡◌, not, [], take}
use Rattle.std.specs.Prelude.{filter}
use Rattle.lits.specs.Clause.{has}
use Rattle.unit_prop.proofs.step_check.open_part.Given as goal

abbrev pub invariant-loop-i : goal.invariant-loop-i
invariant-loop-i g l = filter (λ m. not (has g.L.PartialEq.eq l.set (g.L.Literal.opposite m))) (take l.i l.clause) ≡ []
