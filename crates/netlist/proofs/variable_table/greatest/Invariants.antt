use Rattle.std.proofs.Common.{ℕ, ◌<◌, ◌≤◌, All}
use Rattle.std.specs.List.{slice_index_or}
use Rattle.netlist.specs.declared.gate.And.{And}
use Rattle.netlist.proofs.variable_table.greatest.Given as goal

abbrev pub invariant-loop-var : goal.invariant-loop-var
invariant-loop-var l = (k d : ℕ) → k < l.var-index → slice_index_or l.inputs k d ≤ l.greatest

abbrev pub invariant-loop-gate : goal.invariant-loop-gate
invariant-loop-gate l =
    All (λ v. v ≤ l.greatest) l.inputs
    × ((k : ℕ) (d : And) → k < l.gate-index → (slice_index_or l.gates k d).var ≤ l.greatest)
