use Rattle.std.proofs.Common.{◌∙◌, ◌+◌, ℕ, ap, sym, arith}
use Rattle.netlist.specs.Starts.{first_clause}
use Rattle.netlist.proofs.StartLemmas.{first_clause-more}
use Rattle.netlist.proofs.NetLemmas.{node_at-gate_a, node_at-gate_b}
use Rattle.netlist.proofs.pair.CircuitPair.clauses_at.Goals as goal

pub returns-then-place-first_a-clause-next : goal.returns-then-place-first_a-clause-next
returns-then-place-first_a-clause-next c =
    first_clause-more c.args.self.now c.args.place c.node.result c.node.ensures
    ∙ ap (λ (n : ℕ). first_clause c.args.self.now c.args.place + n) (sym c.clauses.ensures.count)

pub returns-then-place-first_b-clause-next : goal.returns-then-place-first_b-clause-next
returns-then-place-first_b-clause-next c =
    first_clause-more c.args.self.now c.args.place _
    (node_at-gate_a c.args.self.now c.args.place _ (omega (arith, c.sizes-sizes.ensures.inputs)) (omega (arith, c.sizes-sizes.ensures.gates_a)))
    ∙ ap (λ (n : ℕ). first_clause c.args.self.now c.args.place + n) (sym c.gate_clauses.ensures.count)

pub returns-then-place-first_xor-clause-next : goal.returns-then-place-first_xor-clause-next
returns-then-place-first_xor-clause-next c =
    first_clause-more c.args.self.now c.args.place _
    (node_at-gate_b c.args.self.now c.args.place _ (omega (arith, c.sizes-sizes.ensures.inputs, c.sizes-sizes.ensures.gates_a))
    (omega (arith, c.sizes-sizes.ensures.gates_b)))
    ∙ ap (λ (n : ℕ). first_clause c.args.self.now c.args.place + n) (sym c.gate_clauses-then-place-first_xor.ensures.count)

pub returns-else-place-first_xor-clause-next : goal.returns-else-place-first_xor-clause-next
returns-else-place-first_xor-clause-next c =
    first_clause-more c.args.self.now c.args.place c.node-else-place-first_xor.result c.node-else-place-first_xor.ensures
    ∙ ap (λ (n : ℕ). first_clause c.args.self.now c.args.place + n) (sym c.clauses-else-place-first_xor.ensures.count)
