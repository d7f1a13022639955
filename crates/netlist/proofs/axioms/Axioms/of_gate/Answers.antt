use Rattle.netlist.proofs.AxiomLemmas.{gate-put}
use Rattle.netlist.proofs.axioms.Axioms.of_gate.Goals as goal

pub returns : goal.returns
returns c =
    gate-put c.args.gate c.requires c.negative.ensures c.negative-2.ensures c.positive.ensures c.not.ensures c.not-2.ensures
    c.of_two.ensures c.of_two-2.ensures c.of_three.ensures
    c.none-axioms.ensures c.push.ensures.clauses c.push-2.ensures.clauses c.add.ensures.clauses
