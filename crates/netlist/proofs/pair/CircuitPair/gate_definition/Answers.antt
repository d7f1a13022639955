-- The gate at the place of the variable defines it.
use Rattle.std.proofs.Common.{◌≡◌, ◌∙◌, Some, ap, sym}
use Rattle.std.specs.Prelude.{◌==◌}
use Rattle.lits.specs.declared.node.Node.TheVariants.{Gate}
use Rattle.netlist.specs.Circuit.{Aig}
use Rattle.netlist.specs.Net.{circuit_of}
use Rattle.netlist.specs.Place.{place_of}
use Rattle.netlist.proofs.AxiomLemmas.{apart-some, defined-gate, defined-no_gate}
use Rattle.netlist.proofs.pair.CircuitPair.gate_definition.Goals as goal

pub returns-in-Some-clause-definition : goal.returns-in-Some-clause-definition
returns-in-Some-clause-definition c =
    let at : place_of (λ g. g.var == c.args.var) (circuit_of c.args.self.now c.args.side).gates ≡ Some c.in-Some.index =
    ap (λ (a : Aig). place_of (λ g. g.var == c.args.var) a.gates) (sym c.circuit.ensures.circuit) ∙ sym c.gate.ensures.gate ∙ c.in-Some.is in
    ap Some c.defined.ensures ∙ sym (defined-gate c.args.self.now c.args.side c.args.var c.in-Some.index c.gate-in-Some.result c.gate-in-Some.ensures.gate at)

pub returns-in-Some-clause-apart : goal.returns-in-Some-clause-apart
returns-in-Some-clause-apart c =
    apart-some c.args.self.now (Gate c.args.side c.args.var) (Some c.defined.result) c.circuit.ensures.net (returns-in-Some-clause-definition c)

pub returns-in-None-clause-definition : goal.returns-in-None-clause-definition
returns-in-None-clause-definition c =
    sym (defined-no_gate c.args.self.now c.args.side c.args.var
    (ap (λ (a : Aig). place_of (λ g. g.var == c.args.var) a.gates) (sym c.circuit.ensures.circuit) ∙ sym c.gate.ensures.gate ∙ c.in-None.is))
