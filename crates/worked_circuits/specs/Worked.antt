-- Circuits with constraints, and the circuit that most worked cases are about.
use Rattle.std.specs.Prelude.{ℕ, List, [], ◌∷◌}
use Rattle.netlist.specs.declared.gate.And.{And}
use Rattle.netlist.specs.Circuit.{Aig, plain}

-- two inputs, 1 and 2, and a gate over two literals, 3, which is the output
abbrev pub one_gate : ℕ → ℕ → Aig
one_gate left right = plain (1 ∷ 2 ∷ []) (record { var = 3; left = left; right = right } ∷ []) (6 ∷ [])

-- the circuit of these inputs, gates, outputs and constraints, without names
abbrev pub constrained : List ℕ → List And → List ℕ → List ℕ → Aig
constrained inputs gates outputs constraints = record (plain inputs gates outputs) { constraints = constraints }
