use Rattle.std.proofs.Common.{◌≡◌, ◌∙◌, ℕ, Some, List, ap, refl, subst}
use Rattle.std.specs.Prelude.{slice_get}
use Rattle.std.proofs.lemmas.Option.{slice_get_read}
use Rattle.netlist.specs.Circuit.{Aig}
use Rattle.netlist.proofs.BoundLemmas.{bound_of-lit}
use Rattle.netlist.proofs.pair.CircuitPair.constraint.Goals as goal

pub returns : goal.returns
returns c =
    let found = slice_get_read c.constraints.result.now _ c.args.k c.in_ok-lit.lit.now refl c.in_ok-lit.ensures.lookup.3.0 c.in_ok-lit.ensures.lookup.1 in
    let same = c.constraints.ensures.constraints ∙ ap (λ (g : Aig). g.constraints) c.circuit.ensures.circuit in
    c.lit.ensures
    ∙ bound_of-lit c.args.self.now c.args.side c.args.k c.in_ok-lit.lit.now c.circuit.ensures.net
    (subst (λ (ls : List ℕ). slice_get ls c.args.k ≡ Some c.in_ok-lit.lit.now) same found)
