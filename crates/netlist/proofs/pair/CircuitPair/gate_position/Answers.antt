use Rattle.std.proofs.Common.{◌∙◌, ℕ, ◌+◌, ap, sym}
use Rattle.std.specs.Prelude.{◌==◌}
use Rattle.std.specs.Option.{option_map}
use Rattle.netlist.specs.Circuit.{Aig}
use Rattle.netlist.specs.Net.{circuit_of}
use Rattle.netlist.specs.Place.{place_of}
use Rattle.netlist.specs.Pair.{first_gate}
use Rattle.netlist.proofs.NetLemmas.{position-gate}
use Rattle.netlist.proofs.pair.CircuitPair.gate_position.Goals as goal

pub returns-in-Some : goal.returns-in-Some
returns-in-Some c =
    ap (option_map (λ g. c.first_gate-first.result + g)) (
    sym c.in-Some.is ∙ c.gate.ensures.gate
    ∙ ap (λ (a : Aig). place_of (λ g. g.var == c.args.var) a.gates) c.circuit.ensures.circuit)
    ∙ ap (λ (n : ℕ). option_map (λ g. n + g) (place_of (λ g. g.var == c.args.var) (circuit_of c.args.self.now c.args.side).gates)) c.first_gate-first.ensures.first
    ∙ position-gate c.args.self.now c.args.side c.args.var

pub returns-in-None : goal.returns-in-None
returns-in-None c =
    ap (option_map (λ g. first_gate c.args.self.now c.args.side + g)) (
    sym c.in-None.is ∙ c.gate.ensures.gate
    ∙ ap (λ (a : Aig). place_of (λ g. g.var == c.args.var) a.gates) c.circuit.ensures.circuit)
    ∙ position-gate c.args.self.now c.args.side c.args.var
