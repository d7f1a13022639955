use Rattle.std.proofs.Common.{◌≡◌, true, take}
use Rattle.lits.specs.Clause.{has}
use Rattle.lits.specs.Same.{same_lit, opposite}
use Rattle.lits.specs.declared.literal.Lit.{Lit}
use Rattle.watch_lists.specs.Trail.{lits_of}
use Rattle.solver_watch.proofs.choice.next_assumption.Given as goal

abbrev pub invariant-loop-lit : goal.invariant-loop-lit
invariant-loop-lit l =
    (m : Lit) → has same_lit (take l.lit-index l.lit-items) m ≡ true → has same_lit (lits_of l.trail.puts) (opposite m) ≡ true
