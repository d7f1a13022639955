-- The fanins of the gate that was read are defined.
use Rattle.std.proofs.Common.{◌≡◌, ◌∙◌, ◌<◌, ℕ, true, List, length, get_or, ap, sym, subst}
use Rattle.lits.specs.declared.node.Side.{Side}
use Rattle.netlist.specs.declared.gate.And.{And}
use Rattle.netlist.specs.Circuit.{Aig, is_over, variables_in}
use Rattle.netlist.specs.Net.{AigPair, IsNet, circuit_of}
use Rattle.netlist.proofs.NetLemmas.{circuit_at}
use Rattle.netlist.proofs.RunLemmas.{fanins_over}
use Rattle.netlist.proofs.pair.CircuitPair.gate.Goals as goal

abbrev none : And
none = record { var = 0; left = 0; right = 0 }

over : (net : AigPair) (side : Side) (c : Aig) (gates : List And) (i : ℕ) → IsNet net → c ≡ circuit_of net side → gates ≡ c.gates
    → i < length (circuit_of net side).gates
    → (is_over (variables_in (circuit_of net side)) (get_or gates i none).left ≡ true)
    × (is_over (variables_in (circuit_of net side)) (get_or gates i none).right ≡ true)
over net side c gates i is e f l =
    subst (λ (gs : List And). (is_over (variables_in (circuit_of net side)) (get_or gs i none).left ≡ true)
    × (is_over (variables_in (circuit_of net side)) (get_or gs i none).right ≡ true))
    (sym (f ∙ ap (λ (g : Aig). g.gates) e)) (fanins_over (circuit_of net side) i none (circuit_at net side is) l)

pub returns-clause-left : goal.returns-clause-left
returns-clause-left c =
    (over c.args.self.now c.args.side c.circuit.result.now c.gates.result.now c.args.index
    c.circuit.ensures.net c.circuit.ensures.circuit c.gates.ensures.gates c.requires).0

pub returns-clause-right : goal.returns-clause-right
returns-clause-right c =
    (over c.args.self.now c.args.side c.circuit.result.now c.gates.result.now c.args.index
    c.circuit.ensures.net c.circuit.ensures.circuit c.gates.ensures.gates c.requires).1
