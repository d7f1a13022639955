-- After some hints the step's first fault is that of the hints that are left.
use Rattle.std.proofs.Common.{◌≡◌, ◌+◌, drop}
use Rattle.lits.specs.Same.{same_lit, opposite}
use Rattle.unit_prop.specs.Step.{first_fault, fault_from}
use Rattle.unit_prop.specs.Log.{with_own}
use Rattle.lemma_book.proofs.steps.fault_of.Given as goal

abbrev pub invariant-loop-i : goal.invariant-loop-i
invariant-loop-i g l =
    first_fault same_lit opposite (with_own (g.S.Sources.find l.sources) l.before) l.step.clause l.step.hints
    ≡ fault_from same_lit opposite (with_own (g.S.Sources.find l.sources) l.before) (l.i + 1) l.check (drop l.i l.step.hints)
