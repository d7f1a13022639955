use Rattle.std.proofs.Common.{◌≡◌, ◌∙◌, Some, sym, ap, subst}
use Rattle.netlist.specs.Circuit.{Aig, IsCircuit, variables_in}
use Rattle.netlist.specs.VariableTable.{IsTable}
use Rattle.netlist.proofs.EditedCircuits.{is_set, vars-set}
use Rattle.netlist.proofs.EditedTables.{gate_there, set_is}
use Rattle.netlist.proofs.circuit.Circuit.set_gate.Goals as goal

pub unwrap-index-requires : goal.unwrap-index-requires
unwrap-index-requires c = gate_there c.args.self.now c.args.gate.var c.gate.result c.gate.ensures.gate c.requires.gate

pub returns-clause-gate : goal.returns-clause-gate
returns-clause-gate c =
    let found : c.gate.result ≡ Some c.unwrap-index.result = cc c.unwrap-index.ensures in
    set_is c.args.gate c.unwrap-index.result c.self.view_is c.self.invariant c.gate.ensures.gate found c.replace_gate.ensures

pub returns-clause-circuit : goal.returns-clause-circuit
returns-clause-circuit c =
    let found : c.gate.result ≡ Some c.unwrap-index.result = cc c.unwrap-index.ensures in
    let new = set_is c.args.gate c.unwrap-index.result c.self.view_is c.self.invariant c.gate.ensures.gate found c.replace_gate.ensures in
    let circuit = subst (λ (g : Aig). IsCircuit g) c.self.view_is c.self.invariant.circuit in
    subst (λ (g : Aig). IsCircuit g) (sym new) (is_set c.args.self.now c.args.gate circuit c.requires)

pub invariant_of-self : goal.invariant_of-self
invariant_of-self c =
    let found : c.gate.result ≡ Some c.unwrap-index.result = cc c.unwrap-index.ensures in
    let new = set_is c.args.gate c.unwrap-index.result c.self.view_is c.self.invariant c.gate.ensures.gate found c.replace_gate.ensures in
    let circuit = subst (λ (g : Aig). IsCircuit g) c.self.view_is c.self.invariant.circuit in
    let same = ap variables_in new ∙ vars-set c.args.self.now c.args.gate ∙ ap variables_in (sym c.self.view_is) in
    record {
      circuit = subst (λ (g : Aig). IsCircuit g) (sym new) (is_set c.args.self.now c.args.gate circuit c.requires);
      table = subst (λ vars. IsTable c.self.inside.table vars) (sym same) c.self.invariant.table;
    }
