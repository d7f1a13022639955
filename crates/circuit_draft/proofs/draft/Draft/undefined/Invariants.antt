use Rattle.std.proofs.Common.{◌≡◌, ◌++◌, ◌∷◌, [], drop, not}
use Rattle.std.specs.List.{find, flat_map}
use Rattle.netlist.specs.Circuit.{is_over, variables_in}
use Rattle.circuit_draft.specs.Draft.{undefined_in}
use Rattle.circuit_draft.proofs.draft.Draft.undefined.Given as goal

abbrev pub invariant-loop-lit : goal.invariant-loop-lit
invariant-loop-lit l =
    undefined_in l.self
    ≡ find (λ n. not (is_over (variables_in l.self) n)) (drop l.lit-index l.self.outputs ++ (l.self.constraints ++ flat_map (λ g. g.left ∷ g.right ∷ []) l.self.gates))

abbrev pub invariant-loop-constraint : goal.invariant-loop-constraint
invariant-loop-constraint l =
    undefined_in l.self
    ≡ find (λ n. not (is_over (variables_in l.self) n)) (drop l.constraint-index l.self.constraints ++ flat_map (λ g. g.left ∷ g.right ∷ []) l.self.gates)

abbrev pub invariant-loop-gate : goal.invariant-loop-gate
invariant-loop-gate l =
    undefined_in l.self
    ≡ find (λ n. not (is_over (variables_in l.self) n)) (flat_map (λ g. g.left ∷ g.right ∷ []) (drop l.gate-index l.self.gates))
