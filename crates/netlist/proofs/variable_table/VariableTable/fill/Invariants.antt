use Rattle.std.proofs.Common.{◌≡◌, ◌∷◌, ◌++◌, length, take}
use Rattle.netlist.specs.Circuit.{gate_vars}
use Rattle.netlist.specs.VariableTable.{IsTable}
use Rattle.netlist.proofs.variable_table.VariableTable.fill.Given as goal

abbrev pub invariant-loop-var : goal.invariant-loop-var
invariant-loop-var l = IsTable l.self (0 ∷ take l.var-index l.inputs) × (length l.self.by_variable ≡ length l.initial.self.by_variable)

abbrev pub invariant-loop-gate : goal.invariant-loop-gate
invariant-loop-gate l =
    IsTable l.self (0 ∷ (l.inputs ++ gate_vars (take l.gate-index l.gates)))
    × (length l.self.by_variable ≡ length l.initial.self.by_variable)
