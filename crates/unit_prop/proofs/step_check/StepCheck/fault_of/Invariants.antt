use Rattle.std.proofs.Common.{◌≡◌, ◌+◌, drop}
use Rattle.unit_prop.specs.Step.{first_fault, fault_from}
use Rattle.unit_prop.proofs.step_check.StepCheck.fault_of.Given as goal

abbrev pub invariant-loop-i : goal.invariant-loop-i
invariant-loop-i g l =
    first_fault g.L.PartialEq.eq g.L.Literal.opposite (g.C.Clauses.find l.clauses) l.clause l.hints
    ≡ fault_from g.L.PartialEq.eq g.L.Literal.opposite (g.C.Clauses.find l.clauses) (l.i + 1) l.self (drop l.i l.hints)
