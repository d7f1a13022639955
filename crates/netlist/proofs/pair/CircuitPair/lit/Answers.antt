use Rattle.std.proofs.Common.{◌∙◌, ap}
use Rattle.netlist.specs.Circuit.{Aig, is_negated, var_of}
use Rattle.netlist.specs.Source.{source_of}
use Rattle.netlist.specs.Pair.{lit_from}
use Rattle.netlist.proofs.SourceLemmas.{lit_of-source}
use Rattle.netlist.proofs.pair.CircuitPair.lit.Goals as goal

pub returns : goal.returns
returns c =
    c.lit_from.ensures
    ∙ ap (lit_from c.args.side (var_of c.args.aiger) (is_negated c.args.aiger))
    (c.source.ensures.source ∙ ap (λ (g : Aig). source_of g (var_of c.args.aiger)) c.circuit.ensures.circuit)
    ∙ lit_of-source c.args.self.now c.args.side c.args.aiger
