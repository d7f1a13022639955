use Rattle.std.proofs.Common.{length, ap, ◌∙◌}
use Rattle.netlist.proofs.AxiomLemmas.{gate_axioms_of, xor_axioms_of}
use Rattle.netlist.proofs.pair.CircuitPair.clauses.Goals as goal

pub returns-in-Gate-Some-clause-count : goal.returns-in-Gate-Some-clause-count
returns-in-Gate-Some-clause-count c =
    c.gate_count.ensures.count
    ∙ ap length (gate_axioms_of c.args.self.now c.args.node c.in-Gate-Some.field-0-0 c.in-Gate-Some.field-1-0 c.in-Gate-Some.gate c.in-Gate-Some.is-0 c.in-Gate-Some.ensures.definition)

pub returns-in-Xor-Some-clause-count : goal.returns-in-Xor-Some-clause-count
returns-in-Xor-Some-clause-count c =
    c.xor_count.ensures.count
    ∙ ap length (xor_axioms_of c.args.self.now c.args.node c.in-Xor-Some.field-0-0 c.in-Xor-Some.xor c.in-Xor-Some.is-0 c.in-Xor-Some.ensures.definition)
