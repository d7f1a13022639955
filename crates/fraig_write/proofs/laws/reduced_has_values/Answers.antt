use Rattle.std.proofs.Common.{ap}
use Rattle.netlist.specs.Circuit.{Aig}
use Rattle.fraig_write.proofs.ValueLemmas.{reduced-values}
use Rattle.fraig_write.proofs.laws.reduced_has_values.Goals as goal

pub returns-clause-values : goal.returns-clause-values
returns-clause-values c =
    reduced-values c.args.net.now c.is_net.ensures c.args.book.now c.requires.legal c.roots_keep_values.ensures c.args.circuit.now c.requires.reduced

pub returns-clause-names : goal.returns-clause-names
returns-clause-names c = ap (λ (x : Aig). x.names) c.requires.reduced.circuit
