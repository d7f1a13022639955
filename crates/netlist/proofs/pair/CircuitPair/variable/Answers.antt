use Rattle.std.proofs.Common.{◌∙◌, ◌+◌, ap, sym, arith}
use Rattle.std.specs.Option.{option_map}
use Rattle.netlist.specs.Net.{nodes_of}
use Rattle.lits.specs.Same.{same_node}
use Rattle.netlist.specs.Miter.{variable_of}
use Rattle.netlist.proofs.SourceLemmas.{place_within}
use Rattle.netlist.proofs.NetLemmas.{length-nodes, variable-xor_in, variable-xor_out, variable-node}
use Rattle.netlist.proofs.pair.CircuitPair.variable.Goals as goal

pub returns-then-j-sizes-clause-variable : goal.returns-then-j-sizes-clause-variable
returns-then-j-sizes-clause-variable c =
    variable-xor_in c.sizes-sizes.ensures c.in-Xor.j c.if-j-sizes.true ∙ ap (variable_of c.args.self.now) (sym c.in-Xor.is)

pub returns-else-j-sizes-clause-variable : goal.returns-else-j-sizes-clause-variable
returns-else-j-sizes-clause-variable c =
    variable-xor_out c.sizes-sizes.ensures c.in-Xor.j c.if-j-sizes.false ∙ ap (variable_of c.args.self.now) (sym c.in-Xor.is)

pub returns-in-Some-clause-variable : goal.returns-in-Some-clause-variable
returns-in-Some-clause-variable c =
    ap (option_map (λ k. k + 1)) (sym c.in-Some.is ∙ c.position.ensures) ∙ variable-node c.args.self.now c.args.node c.in_default.not-Xor

pub returns-in-None-clause-variable : goal.returns-in-None-clause-variable
returns-in-None-clause-variable c =
    ap (option_map (λ k. k + 1)) (sym c.in-None.is ∙ c.position.ensures) ∙ variable-node c.args.self.now c.args.node c.in_default.not-Xor

pub overflow_add-result-in-Some : goal.overflow_add-result-in-Some
overflow_add-result-in-Some c =
    let below = place_within (λ n. same_node n c.args.node) (nodes_of c.args.self.now) c.in-Some.position (sym c.position.ensures ∙ c.in-Some.is) in
    let sizes = c.sizes-sizes.ensures in
    omega (arith, below, length-nodes c.args.self.now, sizes.inputs, sizes.gates_a, sizes.gates_b, sizes.few_a, sizes.few_b)

pub returns-in-Some-clause-range : goal.returns-in-Some-clause-range
returns-in-Some-clause-range c =
    let below = place_within (λ n. same_node n c.args.node) (nodes_of c.args.self.now) c.in-Some.position (sym c.position.ensures ∙ c.in-Some.is) in
    let sizes = c.sizes-sizes.ensures in
    (omega arith, omega (arith, below, length-nodes c.args.self.now, sizes.inputs, sizes.gates_a, sizes.gates_b, sizes.few_a, sizes.few_b))
