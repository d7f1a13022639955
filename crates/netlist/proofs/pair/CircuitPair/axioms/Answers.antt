use Rattle.std.proofs.Common.{◌∙◌}
use Rattle.netlist.proofs.AxiomLemmas.{gate_axioms_of, xor_axioms_of}
use Rattle.netlist.proofs.pair.CircuitPair.axioms.Goals as goal

pub returns-in-Gate-Some : goal.returns-in-Gate-Some
returns-in-Gate-Some c =
    c.of_gate.ensures ∙ gate_axioms_of c.args.self.now c.args.node c.in-Gate-Some.field-0-0 c.in-Gate-Some.field-1-0 c.in-Gate-Some.gate c.in-Gate-Some.is-0 c.in-Gate-Some.ensures.definition

pub returns-in-Xor-Some : goal.returns-in-Xor-Some
returns-in-Xor-Some c =
    c.of_xor.ensures ∙ xor_axioms_of c.args.self.now c.args.node c.in-Xor-Some.field-0-0 c.in-Xor-Some.xor c.in-Xor-Some.is-0 c.in-Xor-Some.ensures.definition
