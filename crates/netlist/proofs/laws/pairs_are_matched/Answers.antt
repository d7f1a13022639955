use Rattle.netlist.proofs.PairingLemmas.{is-matched, matched-is, none-against}
use Rattle.netlist.proofs.laws.pairs_are_matched.Goals as goal

pub returns : goal.returns
returns c =
    let a = c.args.a.now in
    let b = c.args.b.now in
    record {
      stands = is-matched a b
          (record { inputs = c.names-names_of_a.ensures.circuit.names.input_places; outputs = c.names-names_of_a.ensures.circuit.names.output_places })
          (record { inputs = c.names-names_of_b.ensures.circuit.names.input_places; outputs = c.names-names_of_b.ensures.circuit.names.output_places });
      alone = matched-is a b;
      none_against = none-against a b;
    }
