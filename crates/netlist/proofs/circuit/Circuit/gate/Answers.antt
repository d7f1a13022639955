use Rattle.std.proofs.Common.{◌∙◌, ap, subst}
use Rattle.netlist.specs.Circuit.{Aig, IsCircuit}
use Rattle.netlist.specs.Pair.{gate_from}
use Rattle.netlist.proofs.SourceLemmas.{gate_from-source}
use Rattle.netlist.proofs.circuit.Circuit.gate.Goals as goal

pub returns-clause-gate : goal.returns-clause-gate
returns-clause-gate c =
    c.gate_from.ensures ∙ ap gate_from c.source.ensures.source
    ∙ gate_from-source c.args.self.now c.args.var (subst (λ (g : Aig). IsCircuit g) c.self.view_is c.self.invariant.circuit)
