use Rattle.std.proofs.Common.{◌≡◌, sym, subst}
use Rattle.netlist.specs.Circuit.{Aig, IsCircuit}
use Rattle.netlist.specs.Edit.{with_output}
use Rattle.netlist.proofs.EditedCircuits.{is_led}
use Rattle.netlist.proofs.circuit.Circuit.set_output.Goals as goal

pub returns-clause-circuit : goal.returns-clause-circuit
returns-clause-circuit c =
    let circuit = subst (λ (g : Aig). IsCircuit g) c.self.view_is c.self.invariant.circuit in
    let new : c.replace_output.new.self ≡ with_output c.args.self.now c.args.j c.args.lit =
    subst (λ (g : Aig). c.replace_output.new.self ≡ with_output g c.args.j c.args.lit) c.self.view_is c.replace_output.ensures in
    subst (λ (g : Aig). IsCircuit g) (sym new) (is_led c.args.self.now c.args.j c.args.lit circuit c.requires.lit)

pub invariant_of-self : goal.invariant_of-self
invariant_of-self c =
    record { circuit = returns-clause-circuit c; table = rw c.replace_output.ensures c.self.invariant.table }
