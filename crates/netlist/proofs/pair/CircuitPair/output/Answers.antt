use Rattle.std.proofs.Common.{◌≡◌, ◌∙◌, ℕ, Some, List, ap, refl, subst}
use Rattle.std.specs.Prelude.{slice_get}
use Rattle.std.proofs.lemmas.Option.{slice_get_read}
use Rattle.netlist.specs.Circuit.{Aig}
use Rattle.netlist.proofs.NetLemmas.{output_of-lit}
use Rattle.netlist.proofs.pair.CircuitPair.output.Goals as goal

pub returns : goal.returns
returns c =
    let found = slice_get_read c.outputs.result.now _ c.args.j c.in_ok-lit.lit.now refl c.in_ok-lit.ensures.lookup.3.0 c.in_ok-lit.ensures.lookup.1 in
    let same = c.outputs.ensures.outputs ∙ ap (λ (g : Aig). g.outputs) c.circuit.ensures.circuit in
    c.lit.ensures
    ∙ output_of-lit c.args.self.now c.args.side c.args.j c.in_ok-lit.lit.now c.circuit.ensures.net
    (subst (λ (ls : List ℕ). slice_get ls c.args.j ≡ Some c.in_ok-lit.lit.now) same found)
