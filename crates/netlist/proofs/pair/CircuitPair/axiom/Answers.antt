use Rattle.std.proofs.Common.{◌∙◌, List, ap}
use Rattle.std.specs.Prelude.{slice_get}
use Rattle.lits.specs.declared.literal.Lit.{Lit}
use Rattle.netlist.proofs.AxiomLemmas.{gate_axioms_of}
use Rattle.netlist.proofs.pair.CircuitPair.axiom.Goals as goal

pub returns-in-Gate-Some : goal.returns-in-Gate-Some
returns-in-Gate-Some c =
    c.gate_axiom.ensures
    ∙ ap (λ (cs : List (List Lit)). slice_get cs c.args.k)
    (gate_axioms_of c.args.self.now c.args.node c.in-Gate-Some.field-0-0 c.in-Gate-Some.field-1-0 c.in-Gate-Some.gate
    c.in-Gate-Some.is-0 c.in-Gate-Some.ensures.definition)
