use Rattle.netlist.proofs.AxiomLemmas.{xor-put}
use Rattle.netlist.proofs.axioms.Axioms.of_xor.Goals as goal

pub returns : goal.returns
returns c =
    xor-put c.args.xor c.requires c.negative.ensures c.negative-2.ensures c.positive.ensures c.positive-2.ensures
    c.not.ensures c.not-2.ensures c.not-3.ensures c.not-4.ensures
    c.of_three.ensures c.of_three-2.ensures c.of_three-3.ensures c.of_three-4.ensures
    c.none-axioms.ensures c.add.ensures.clauses c.add-2.ensures.clauses c.add-3.ensures.clauses c.add-4.ensures.clauses
