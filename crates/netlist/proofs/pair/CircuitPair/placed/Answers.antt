use Rattle.std.proofs.Common.{◌≡◌, ◌∙◌, ◌+◌, ◌≤◌, ℕ, Some, length, ap, sym, subst, arith}
use Rattle.std.specs.Option.{is_some}
use Rattle.netlist.specs.declared.gate.Source.TheVariants.{Constant, Input, Gate}
use Rattle.netlist.specs.Circuit.{Aig, var_of, is_negated, most}
use Rattle.netlist.specs.Net.{circuit_of}
use Rattle.netlist.specs.Source.{source_of}
use Rattle.netlist.proofs.VariableLemmas.{few_inputs_of}
use Rattle.netlist.proofs.SourceLemmas.{within_found, is_over-source}
use Rattle.netlist.proofs.PlacedLemmas.{placed_from, placed-source}
use Rattle.netlist.proofs.NetLemmas.{circuit_at}
use Rattle.netlist.proofs.pair.CircuitPair.placed.Goals as goal

pub unwrap-requires : goal.unwrap-requires
unwrap-requires c =
    ap is_some (c.source.ensures.source ∙ ap (λ (g : Aig). source_of g (var_of c.args.aiger)) c.circuit.ensures.circuit)
    ∙ sym (is_over-source (circuit_of c.args.self.now c.args.side) c.args.aiger) ∙ c.requires

pub overflow_add-result : goal.overflow_add-result
overflow_add-result c =
    let is : c.source.result ≡ Some (Input c.in-Input.k) = cc (c.unwrap.ensures, c.in-Input.is) in
    let within = within_found c.circuit.result.now (var_of c.args.aiger) (Input c.in-Input.k) (sym is ∙ c.source.ensures.source) in
    let few = subst (λ (g : Aig). length g.inputs ≤ most) (sym c.circuit.ensures.circuit)
    (few_inputs_of (circuit_of c.args.self.now c.args.side) (circuit_at c.args.self.now c.args.side c.circuit.ensures.net)) in
    omega (arith, within, few)

pub returns-in-Constant : goal.returns-in-Constant
returns-in-Constant c =
    let is : c.source.result ≡ Some Constant = cc (c.unwrap.ensures, c.in-Constant.is) in
    ap (placed_from c.args.self.now c.args.side (is_negated c.args.aiger))
    (sym is ∙ c.source.ensures.source ∙ ap (λ (g : Aig). source_of g (var_of c.args.aiger)) c.circuit.ensures.circuit)
    ∙ placed-source c.args.self.now c.args.side c.args.aiger c.circuit.ensures.net c.requires

pub returns-in-Input : goal.returns-in-Input
returns-in-Input c =
    let is : c.source.result ≡ Some (Input c.in-Input.k) = cc (c.unwrap.ensures, c.in-Input.is) in
    ap (placed_from c.args.self.now c.args.side (is_negated c.args.aiger))
    (sym is ∙ c.source.ensures.source ∙ ap (λ (g : Aig). source_of g (var_of c.args.aiger)) c.circuit.ensures.circuit)
    ∙ placed-source c.args.self.now c.args.side c.args.aiger c.circuit.ensures.net c.requires

pub returns-in-Gate : goal.returns-in-Gate
returns-in-Gate c =
    let is : c.source.result ≡ Some (Gate c.in-Gate.g) = cc (c.unwrap.ensures, c.in-Gate.is) in
    ap (λ (n : ℕ). record { position = n + c.in-Gate.g; neg = is_negated c.args.aiger }) c.first_gate.ensures.first
    ∙ ap (placed_from c.args.self.now c.args.side (is_negated c.args.aiger))
    (sym is ∙ c.source.ensures.source ∙ ap (λ (g : Aig). source_of g (var_of c.args.aiger)) c.circuit.ensures.circuit)
    ∙ placed-source c.args.self.now c.args.side c.args.aiger c.circuit.ensures.net c.requires
