-- The parts make a circuit, which is A reduced.
use Rattle.std.proofs.Common.{◌∙◌, ℕ, List, map, sym, ap, subst}
use Rattle.std.specs.List.{AllByRecursion, range_with_len}
use Rattle.netlist.specs.Circuit.{Aig, IsCircuit}
use Rattle.fraig_write.specs.Reduced.{root_renumbered}
use Rattle.fraig_write.specs.Renumbering.{RootHasNumber}
use Rattle.fraig_write.proofs.OrderLemmas.{made, reduced-circuit}
use Rattle.fraig_write.proofs.ReachedNodes.{ends-number, gates-number}
use Rattle.fraig_write.proofs.reduced_circuit.reduce.Goals as goal

pub gates-requires-clause-numbers : goal.gates-requires-clause-numbers
gates-requires-clause-numbers c =
    let s = c.in_ok-numbering.ensures.staying in
    gates-number c.args.net.now c.is_net.ensures c.args.book.now c.requires s.reached s.are_reached c.in_ok-numbering.numbering
    c.in_ok-numbering.ensures.inputs s.gates

pub literals-requires-clause-numbers : goal.literals-requires-clause-numbers
literals-requires-clause-numbers c =
    let s = c.in_ok-numbering.ensures.staying in
    subst (λ (xs : List ℕ). AllByRecursion (RootHasNumber c.args.net.now.a c.args.book.now.entries c.in_ok-numbering.numbering) xs)
    (sym (c.outputs.ensures.outputs ∙ ap (λ (x : Aig). x.outputs) c.circuit-a.ensures.circuit))
    (ends-number c.args.net.now c.is_net.ensures c.args.book.now c.requires s.reached s.are_reached c.in_ok-numbering.numbering
    c.in_ok-numbering.ensures.inputs s.gates).0

pub literals-requires-2-clause-numbers : goal.literals-requires-2-clause-numbers
literals-requires-2-clause-numbers c =
    let s = c.in_ok-numbering.ensures.staying in
    subst (λ (xs : List ℕ). AllByRecursion (RootHasNumber c.args.net.now.a c.args.book.now.entries c.in_ok-numbering.numbering) xs)
    (sym (c.constraints.ensures.constraints ∙ ap (λ (x : Aig). x.constraints) c.circuit-a.ensures.circuit))
    (ends-number c.args.net.now c.is_net.ensures c.args.book.now c.requires s.reached s.are_reached c.in_ok-numbering.numbering
    c.in_ok-numbering.ensures.inputs s.gates).1

pub of-requires-2 : goal.of-requires-2
of-requires-2 c =
    let net = c.args.net.now in
    let n = c.in_ok-numbering.numbering in
    let circuit = c.circuit-a.ensures.circuit in
    let literal = root_renumbered net.a c.args.book.now.entries n.staying in
    subst IsCircuit
    (sym (made net.a c.args.book.now n.staying c.in_ok-inputs.inputs.items c.in_ok-gates.gates.items c.in_ok-outputs.outputs.items
    c.in_ok-constraints.constraints.items c.in_ok-names.names
    (c.in_ok-inputs.ensures ∙ ap (range_with_len 1) c.in_ok-numbering.ensures.inputs)
    c.in_ok-gates.ensures
    (c.in_ok-outputs.ensures ∙ ap (map literal) (c.outputs.ensures.outputs ∙ ap (λ (x : Aig). x.outputs) circuit))
    (c.in_ok-constraints.ensures ∙ ap (map literal) (c.constraints.ensures.constraints ∙ ap (λ (x : Aig). x.constraints) circuit))
    (c.in_ok-names.ensures ∙ c.names.ensures.names ∙ ap (λ (x : Aig). x.names) circuit)))
    (reduced-circuit net c.is_net.ensures c.args.book.now c.requires n.staying c.in_ok-numbering.ensures.staying)
